-- How far a machine has come in the row that it reads.
use Rattle.std.specs.Prelude.{ℕ, ◌+◌, ◌==◌, ◌&&◌, Bool, true, false, List, [], ◌∷◌, ◌++◌, length, drop, count_by, nat_lt, nat_le, if◌then◌else◌}
use Rattle.ranked_list.specs.declared.row.Row.{Row}
use Rattle.ranked_list.specs.declared.item.Item.{Item}
use Rattle.ranked_list.specs.declared.need.Need.{Need}
use Rattle.ranked_list.specs.declared.need.Need.TheVariants.{Row as RowAt, Grade, Done}
use Rattle.topk_theory.specs.Order.{lows}
use Rattle.ranked_list.specs.Items.{put_item}
use Rattle.machine_base.specs.Board.{with_new}
use Rattle.ta_core.specs.Halting.{Halt}

-- the depth of the row, its objects and grades so far, its new objects whose grades are not all there yet,
-- the grades of the first of these in the lists from the first on, and whether the answer is known
pub record RowProgress : Type 0 where
  pub depth : ℕ
  pub objects : List ℕ
  pub bottoms : List ℕ
  pub waiting : List ℕ
  pub grades : List ℕ
  pub done : Bool

-- the grades of the object in the lists, from the first of these on, in which the row has it
abbrev pub grades_in_row : ℕ → List ℕ → List ℕ → List ℕ
grades_in_row object [] bottoms = []
grades_in_row object (other ∷ objects) [] = []
grades_in_row object (other ∷ objects) (bottom ∷ bottoms) = if other == object then bottom ∷ grades_in_row object objects bottoms else []

-- the grades of an object with those that follow in the row
abbrev pub filled : List ℕ → List ℕ → ℕ → List ℕ → List ℕ
filled objects bottoms object grades = grades ++ grades_in_row object (drop (length grades) objects) (drop (length grades) bottoms)

-- the grades that the row has of the first object
abbrev pub filled_first : List ℕ → List ℕ → List ℕ → List ℕ
filled_first objects bottoms [] = []
filled_first objects bottoms (object ∷ waiting) = filled objects bottoms object []

-- the first object, or 0 where there is none
abbrev pub first_or_zero : List ℕ → ℕ
first_or_zero [] = 0
first_or_zero (object ∷ waiting) = object

-- after one more row of m
abbrev pub row_added : ℕ → RowProgress → Row → Bool → RowProgress
row_added m r row is_new = record r {
  objects = r.objects ++ row.object ∷ [];
  bottoms = r.bottoms ++ row.grade ∷ [];
  waiting = with_new r.waiting row.object is_new;
  grades = if length (r.objects ++ row.object ∷ []) == m
      then filled_first (r.objects ++ row.object ∷ []) (r.bottoms ++ row.grade ∷ []) (with_new r.waiting row.object is_new)
      else [];
}

-- after one more grade of the first object that waits
abbrev pub grade_added : RowProgress → ℕ → RowProgress
grade_added r grade = record r { grades = filled r.objects r.bottoms (first_or_zero r.waiting) (r.grades ++ grade ∷ []) }

-- whether all grades of the first object that waits are there
abbrev pub is_scored : ℕ → RowProgress → Bool
is_scored m r = length r.grades == m

-- the first object that waits goes on the board once its grades are there
abbrev pub items_after : (List ℕ → ℕ) → ℕ → List Item → RowProgress → List Item
items_after V m items r = if is_scored m r then put_item (record { object = first_or_zero r.waiting; low = V r.grades; high = V r.grades }) items else items

abbrev pub settled : ℕ → RowProgress → RowProgress
settled m r = if is_scored m r then record r { waiting = drop 1 r.waiting; grades = [] } else r

-- whether the row is whole, and no object waits
abbrev pub is_whole : ℕ → RowProgress → Bool
is_whole m r = (length r.objects == m) && (length r.waiting == 0)

-- the beginning of a row
abbrev pub row_begun : ℕ → RowProgress
row_begun depth = record { depth = depth; objects = []; bottoms = []; waiting = []; grades = []; done = false }

-- after a whole row: done where the algorithm stops
abbrev pub moved : ℕ → Bool → RowProgress → RowProgress
moved m stops r = if is_whole m r then (if stops then record r { done = true } else row_begun (r.depth + 1)) else r

-- at least k of the items pass at a depth with such a threshold, by their lows
abbrev pub enough : Halt → ℕ → ℕ → List Item → Bool
enough halt depth bound items = nat_le halt.k (count_by (halt.passes depth bound) (lows items))

-- what follows once an access is told: its object is settled, and a whole row is the last one or makes room for the next
abbrev pub followed : (List ℕ → ℕ) → Halt → ℕ → List Item → RowProgress → RowProgress
followed V halt m items r = moved m (enough halt r.depth (V r.bottoms) items) (settled m r)

-- what is next
abbrev pub need_at : ℕ → RowProgress → Need
need_at m r =
    if r.done then Done else (if nat_lt (length r.objects) m then RowAt (length r.objects) r.depth else Grade (length r.grades) (first_or_zero r.waiting))
