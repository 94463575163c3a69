-- The threshold algorithm on a whole table: where it stops, what it reads and what it answers. Depths count from 1.
use Rattle.std.specs.Prelude.{◌≡◌, ◌<◌, ◌≤◌, ℕ, zero, suc, ◌+◌, ◌-◌, Bool, true, false, not, List, [], ◌∷◌, ◌++◌, length, map, filter, count_by, nat_lt, nat_le, if◌then◌else◌}
use Rattle.std.specs.List.{slice_index_or, list_any, flat_map}
use Rattle.ranked_list.specs.declared.row.Row.{Row}
use Rattle.ranked_list.specs.declared.item.Item.{Item}
use Rattle.ranked_list.specs.Table.{IsTable, place_in, grade_in}
use Rattle.topk_theory.specs.Order.{first_k}
use Rattle.topk_theory.specs.declared.access.Access.{Access}
use Rattle.topk_theory.specs.declared.access.Access.TheVariants.{Sorted, Random}
use Rattle.topk_theory.specs.Aggregate.{objects_of, aggregate}
use Rattle.topk_theory.specs.Transcript.{each_once}

-- the row of a list at a depth
abbrev pub row_at : List Row → ℕ → Row
row_at rows depth = slice_index_or rows (depth - 1) (record { object = 0; grade = 0 })

-- the object stands in the first depth places of some list
abbrev pub stands : List (List Row) → ℕ → ℕ → Bool
stands D depth object = list_any (λ rows. nat_lt (place_in rows object) depth) D

-- the objects that stand in the first depth places of some list
abbrev pub objects_to : List (List Row) → ℕ → List ℕ
objects_to D depth = filter (stands D depth) (objects_of D)

-- the value of the grades at a depth
abbrev pub threshold_at : (List ℕ → ℕ) → List (List Row) → ℕ → ℕ
threshold_at V D depth = V (map (λ rows. (row_at rows depth).grade) D)

-- at least k of the objects down to this depth have an aggregate of at least the threshold
abbrev pub ta_stop : (List ℕ → ℕ) → ℕ → List (List Row) → ℕ → Bool
ta_stop V k D depth = nat_le k (count_by (λ object. nat_le (threshold_at V D depth) (aggregate V D object)) (objects_to D depth))

-- the least number from a start on that passes a test; where none of so many does, the next number, untested
abbrev pub least_from : (ℕ → Bool) → ℕ → ℕ → ℕ
least_from passes zero start = start
least_from passes (suc more) start = if passes start then start else least_from passes more (start + 1)

-- the least depth at which the algorithm stops
abbrev pub ta_depth : (List ℕ → ℕ) → ℕ → List (List Row) → ℕ
ta_depth V k D = least_from (ta_stop V k D) (length (objects_of D) - 1) 1

-- an object whose bounds are both its aggregate
abbrev pub scored : (List ℕ → ℕ) → List (List Row) → ℕ → Item
scored V D object = record { object = object; low = aggregate V D object; high = aggregate V D object }

-- the first k of the objects down to the depth, by aggregate falling, then by number rising
abbrev pub ta_answer : (List ℕ → ℕ) → ℕ → List (List Row) → List Item
ta_answer V k D = first_k k (map (scored V D) (objects_to D (ta_depth V k D)))

-- the sorted accesses of a depth, in the order of the lists, the first of which has this number
abbrev pub sorted_block : ℕ → ℕ → List (List Row) → List Access
sorted_block list depth [] = []
sorted_block list depth (rows ∷ lists) = Sorted list (row_at rows depth).object (row_at rows depth).grade ∷ sorted_block (list + 1) depth lists

-- the objects at a depth that stand no higher in any list, each once, in the order of the lists
abbrev pub new_objects : List (List Row) → ℕ → List ℕ
new_objects D depth = filter (λ object. not (stands D (depth - 1) object)) (each_once (map (λ rows. (row_at rows depth).object) D))

-- the random accesses of an object at a depth: the lists in which it stands lower, in their order
abbrev pub random_block : ℕ → ℕ → ℕ → List (List Row) → List Access
random_block list depth object [] = []
random_block list depth object (rows ∷ lists) =
    if nat_lt (place_in rows object) depth then random_block (list + 1) depth object lists else Random list object (grade_in rows object)
    ∷ random_block (list + 1) depth object lists

-- the accesses of a depth: the row, then the missing grades of its new objects
abbrev pub ta_block : List (List Row) → ℕ → List Access
ta_block D depth = sorted_block 0 depth D ++ flat_map (λ object. random_block 0 depth object D) (new_objects D depth)

-- the accesses down to a depth
abbrev pub ta_run_to : List (List Row) → ℕ → List Access
ta_run_to D zero = []
ta_run_to D (suc depth) = ta_run_to D depth ++ ta_block D (suc depth)

-- what the algorithm reads
abbrev pub ta_run : (List ℕ → ℕ) → ℕ → List (List Row) → List Access
ta_run V k D = ta_run_to D (ta_depth V k D)

-- k objects are asked of a table of n objects, over at least one list
pub record IsAsked (k n : ℕ) (D : List (List Row)) : Type 0 where
  pub table : IsTable n D
  pub lists : 0 < length D
  pub positive : 1 ≤ k
  pub fits : k ≤ n

-- the depth is the least from 1 on at which the algorithm stops, and is at most n
pub record IsLeastDepth (V : List ℕ → ℕ) (k n : ℕ) (D : List (List Row)) (depth : ℕ) : Type 0 where
  pub from_one : 1 ≤ depth
  pub within : depth ≤ n
  pub stops : ta_stop V k D depth ≡ true
  pub least : (other : ℕ) → 1 ≤ other → other < depth → ta_stop V k D other ≡ false

-- the objects of items
abbrev pub item_objects : List Item → List ℕ
item_objects items = map (λ (item : Item). item.object) items
