-- The threshold algorithm with restricted sorted access, TA_Z of Fagin, Lotem and Naor: only the lists of a set Z can be read in order,
-- the others answer random accesses alone. Z tells of each list whether it is one of the set. Depths count from 1.
use Rattle.std.specs.Prelude.{◌≡◌, ◌<◌, ◌≤◌, ◌-◌, ◌==◌, ◌&&◌, ◌||◌, ℕ, zero, suc, ◌+◌, Bool, true, false, not, List, [], ◌++◌, length, map, filter, count_by, nat_lt, nat_le, if◌then◌else◌}
use Rattle.std.specs.List.{flat_map}
use Rattle.ranked_list.specs.declared.row.Row.{Row}
use Rattle.ranked_list.specs.declared.item.Item.{Item}
use Rattle.ranked_list.specs.Table.{place_in, top_grade}
use Rattle.monotone_fn.specs.Value.{IsMonotone}
use Rattle.topk_theory.specs.Order.{first_k}
use Rattle.topk_theory.specs.declared.access.Access.{Access}
use Rattle.topk_theory.specs.declared.access.Access.TheVariants.{Sorted}
use Rattle.topk_theory.specs.Aggregate.{objects_of, aggregate}
use Rattle.topk_theory.specs.Transcript.{Agrees, list_at, list_numbers, sorted_rows, seen_objects, depth}
use Rattle.topk_theory.specs.Threshold.{IsAsked, row_at, stands, least_from, scored}
use Rattle.topk_theory.specs.Combined.{missing_grades}
use Rattle.topk_theory.specs.Asked.{Run, Answering}
use Rattle.algorithm_theory.specs.Optimal.{FixesTamely, IsAlwaysRun}

-- the lists of Z among the first m, in their order
abbrev pub lists_in : (ℕ → Bool) → ℕ → List ℕ
lists_in Z m = filter Z (list_numbers m)

-- some of m lists is in Z
pub record HasOne (Z : ℕ → Bool) (m : ℕ) : Type 0 where
  pub list : ℕ
  pub listed : list < m
  pub sorted : Z list ≡ true

-- the part of a table that can be read in order
abbrev pub part_in : (ℕ → Bool) → List (List Row) → List (List Row)
part_in Z D = map (list_at D) (lists_in Z (length D))

-- the objects that stand in the first depth places of some list of Z
abbrev pub taz_objects : (ℕ → Bool) → List (List Row) → ℕ → List ℕ
taz_objects Z D depth = filter (stands (part_in Z D) depth) (objects_of D)

-- the bottom of a list at a depth: its grade there, and the greatest grade there is where it isn't in Z
abbrev pub taz_bottom : (ℕ → Bool) → List (List Row) → ℕ → ℕ → ℕ
taz_bottom Z D depth list = if Z list then (row_at (list_at D list) depth).grade else top_grade

-- the value of these bottoms
abbrev pub taz_threshold : (List ℕ → ℕ) → (ℕ → Bool) → List (List Row) → ℕ → ℕ
taz_threshold V Z D depth = V (map (taz_bottom Z D depth) (list_numbers (length D)))

-- at least k of the objects down to this depth have an aggregate of at least the threshold
abbrev pub has_enough : (List ℕ → ℕ) → ℕ → (ℕ → Bool) → List (List Row) → ℕ → Bool
has_enough V k Z D depth = nat_le k (count_by (λ object. nat_le (taz_threshold V Z D depth) (aggregate V D object)) (taz_objects Z D depth))

-- all objects of the table stand down to this depth
abbrev pub has_all : (ℕ → Bool) → List (List Row) → ℕ → Bool
has_all Z D depth = length (taz_objects Z D depth) == length (objects_of D)

-- the algorithm may stop at a depth for either cause
abbrev pub taz_stop : (List ℕ → ℕ) → ℕ → (ℕ → Bool) → List (List Row) → ℕ → Bool
taz_stop V k Z D depth = has_all Z D depth || has_enough V k Z D depth

-- the least depth at which it stops
abbrev pub taz_depth : (List ℕ → ℕ) → ℕ → (ℕ → Bool) → List (List Row) → ℕ
taz_depth V k Z D = least_from (taz_stop V k Z D) (length (objects_of D) - 1) 1

-- the sorted access that gets the row of a list at a depth
abbrev pub read_at : List (List Row) → ℕ → ℕ → Access
read_at D depth list = Sorted list (row_at (list_at D list) depth).object (row_at (list_at D list) depth).grade

-- the sorted accesses of a depth, in the order of the lists: those of the first m lists
abbrev pub row_of_first : (ℕ → Bool) → List (List Row) → ℕ → ℕ → List Access
row_of_first Z D depth m = map (read_at D depth) (lists_in Z m)

-- and after accesses, the unknown grades of the seen objects, in the order of first sight, and of each in the order of the lists
abbrev pub with_grades : List (List Row) → List Access → List Access
with_grades D A = A ++ flat_map (missing_grades D A) (seen_objects A)

-- the list has to be asked for the object's grade at a depth: it isn't in Z, or the object stands lower in it
abbrev pub must_ask : (ℕ → Bool) → List (List Row) → ℕ → ℕ → ℕ → Bool
must_ask Z D depth object list = not (Z list && nat_lt (place_in (list_at D list) object) depth)

-- the accesses down to a depth: at each the row, and then the unknown grades of the seen objects, which are the new ones
abbrev pub taz_run_to : (ℕ → Bool) → List (List Row) → ℕ → List Access
taz_run_to Z D zero = []
taz_run_to Z D (suc depth) = with_grades D (taz_run_to Z D depth ++ row_of_first Z D (suc depth) (length D))

-- what the algorithm reads
abbrev pub taz_run : (List ℕ → ℕ) → ℕ → (ℕ → Bool) → List (List Row) → List Access
taz_run V k Z D = taz_run_to Z D (taz_depth V k Z D)

-- what it answers: the first k of the objects down to its depth, by aggregate falling, then by number rising
abbrev pub taz_answer : (List ℕ → ℕ) → ℕ → (ℕ → Bool) → List (List Row) → List Item
taz_answer V k Z D = first_k k (map (scored V D) (taz_objects Z D (taz_depth V k Z D)))

-- the run and the answer of the algorithm over the lists of Z
abbrev pub restricted_run : (ℕ → Bool) → Run
restricted_run Z asked D = taz_run asked.value asked.k Z D

abbrev pub restricted_answer : (ℕ → Bool) → Answering
restricted_answer Z asked D = taz_answer asked.value asked.k Z D

-- the depth is the least from 1 on at which the algorithm stops, and is at most n
pub record IsLeastRestricted (V : List ℕ → ℕ) (k n : ℕ) (Z : ℕ → Bool) (D : List (List Row)) (depth : ℕ) : Type 0 where
  pub from_one : 1 ≤ depth
  pub within : depth ≤ n
  pub stops : taz_stop V k Z D depth ≡ true
  pub least : (other : ℕ) → 1 ≤ other → other < depth → taz_stop V k Z D other ≡ false

-- no sorted access of A is to a list outside Z
abbrev pub ReadsIn : (ℕ → Bool) → List Access → Type 0
ReadsIn Z A = (list : ℕ) → Z list ≡ false → sorted_rows list A ≡ []

-- of a transcript over m lists of n objects: on each table that agrees with it, it is no deeper than the objects that a tame transcript which
-- fixes an answer there sees, and k more, where that one has no sorted access outside Z either
pub record IsNearBestIn (V : List ℕ → ℕ) (k m n : ℕ) (Z : ℕ → Bool) (B : List Access) : Type 0 where
  pub bounded : (D : List (List Row)) (A : List Access) (Y : List ℕ) → Agrees m n D B → FixesTamely V k m n D A Y → ReadsIn Z A
      → depth m B ≤ length (seen_objects A) + k

-- the algorithm stops by then
abbrev pub TazStopsInTime : Type 0
TazStopsInTime =
    (V : List ℕ → ℕ) (k m n : ℕ) (Z : ℕ → Bool) (D : List (List Row)) (A : List Access) (Y : List ℕ)
    → IsMonotone V → IsAsked k n D → HasOne Z m → FixesTamely V k m n D A Y → ReadsIn Z A
    → taz_depth V k Z D ≤ length (seen_objects A) + k

-- so a transcript that is its run on every table that agrees with it is near the best
abbrev pub TazIsNearBest : Type 0
TazIsNearBest =
    (V : List ℕ → ℕ) (k m n : ℕ) (Z : ℕ → Bool) (B : List Access)
    → IsMonotone V → HasOne Z m → IsAlwaysRun (taz_run V k Z) k m n B → IsNearBestIn V k m n Z B
