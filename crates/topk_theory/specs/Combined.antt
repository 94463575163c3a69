-- The combined algorithm on a whole table: its random phases, where it stops, what it reads and what it answers. Depths count from 1.
use Rattle.std.specs.Prelude.{◌≡◌, ◌≢◌, ◌⊎◌, ◌<◌, ◌≤◌, ◌-◌, ◌/◌, ◌%◌, ◌==◌, ◌&&◌, ℕ, zero, suc, max, true, false, List, [], ◌++◌, length, map, filter, Contains, Option, Some, None, is_none, slice_get, if◌then◌else◌, nat_lt}
use Rattle.std.specs.List.{flat_map}
use Rattle.std.specs.Option.{option_map}
use Rattle.ranked_list.specs.declared.row.Row.{Row}
use Rattle.ranked_list.specs.declared.item.Item.{Item}
use Rattle.ranked_list.specs.Table.{grade_in}
use Rattle.topk_theory.specs.Order.{first_k}
use Rattle.topk_theory.specs.declared.access.Access.{Access}
use Rattle.topk_theory.specs.declared.access.Access.TheVariants.{Random}
use Rattle.topk_theory.specs.Aggregate.{objects_of}
use Rattle.topk_theory.specs.Transcript.{list_at, list_numbers, seen_objects}
use Rattle.topk_theory.specs.Bounds.{known_grade, high}
use Rattle.topk_theory.specs.Threshold.{sorted_block, least_from, scored, item_objects}
use Rattle.topk_theory.specs.NoRandom.{first_seen, is_viable, is_quiet}

-- how many rows of each list come between two random phases: the whole part of what a random access costs in sorted ones, and at least 1
abbrev pub phase_length : ℕ → ℕ → ℕ
phase_length each_sorted each_random = max 1 (each_random / each_sorted)

-- the lists whose grade of the object no access gave, in their order
abbrev pub unknown_lists : ℕ → List Access → ℕ → List ℕ
unknown_lists m A object = filter (λ list. is_none (known_grade A object list)) (list_numbers m)

-- the random accesses that get the unknown grades of an object from a table, in the order of the lists
abbrev pub missing_grades : List (List Row) → List Access → ℕ → List Access
missing_grades D A object = map (λ list. Random list object (grade_in (list_at D list) object)) (unknown_lists (length D) A object)

-- a random phase may ask for the object: it is seen and viable, and some grade of it is unknown
pub record MayBeAsked (V : List ℕ → ℕ) (k m : ℕ) (A : List Access) (object : ℕ) : Type 0 where
  pub seen : Contains (seen_objects A) object
  pub viable : is_viable V k m A object ≡ true
  pub unknown : 0 < length (unknown_lists m A object)

-- the choice: an object of greatest high among those that may be asked for, and of these the smallest
pub record IsChoice (V : List ℕ → ℕ) (k m : ℕ) (A : List Access) (object : ℕ) : Type 0 where
  pub may : MayBeAsked V k m A object
  pub greatest : (other : ℕ) → MayBeAsked V k m A other → (high V m A other < high V m A object) ⊎ ((high V m A other ≡ high V m A object) × (object ≤ other))

-- what follows the row of a depth, A being all the accesses up to it: where the depth is a multiple of the phase length
-- the unknown grades of the choice, if there is one, and else nothing
pub record IsPhase (V : List ℕ → ℕ) (k phase depth : ℕ) (D : List (List Row)) (A following : List Access) : Type 0 where
  pub chosen : (object : ℕ) → depth % phase ≡ 0 → IsChoice V k (length D) A object → following ≡ missing_grades D A object
  pub nobody : depth % phase ≡ 0 → ((object : ℕ) → ¬ MayBeAsked V k (length D) A object) → following ≡ []
  pub between : depth % phase ≢ 0 → following ≡ []

-- A is made of the blocks down to a depth: in each the row, and then what follows it
abbrev pub AreBlocks : (List ℕ → ℕ) → ℕ → ℕ → List (List Row) → ℕ → List Access → Type 0
AreBlocks V k phase D zero A = A ≡ []
AreBlocks V k phase D (suc depth) A =
    (before following : List Access) × AreBlocks V k phase D depth before × IsPhase V k phase (suc depth) D (before ++ sorted_block 0 (suc depth) D) following
    × (A ≡ (before ++ sorted_block 0 (suc depth) D) ++ following)

-- the finish after the accesses of A: the unknown grades of the first k seen objects, in their order
abbrev pub finish : (List ℕ → ℕ) → ℕ → List (List Row) → List Access → List Access
finish V k D A = flat_map (λ item. missing_grades D A item.object) (first_seen V k (length D) A)

-- A is a run of the combined algorithm: the blocks down to the least depth at whose end all is quiet, and the finish
pub record IsCombinedRun (V : List ℕ → ℕ) (k phase : ℕ) (D : List (List Row)) (A : List Access) : Type 0 where
  pub depth : ℕ
  pub blocks : List Access
  pub from_one : 1 ≤ depth
  pub made : AreBlocks V k phase D depth blocks
  pub quiet : is_quiet V k (length D) D blocks ≡ true
  pub least : (other : ℕ) (others : List Access) → 1 ≤ other → other < depth → AreBlocks V k phase D other others → is_quiet V k (length D) D others ≡ false
  pub whole : A ≡ blocks ++ finish V k D blocks

-- the seen objects that a random phase may ask for
abbrev pub candidates : (List ℕ → ℕ) → ℕ → ℕ → List Access → List ℕ
candidates V k m A = filter (λ object. is_viable V k m A object && nat_lt 0 (length (unknown_lists m A object))) (seen_objects A)

-- an object with its high as both bounds, so that the order of items is by high falling, then by number rising
abbrev pub by_high : (List ℕ → ℕ) → ℕ → List Access → ℕ → Item
by_high V m A object = record { object = object; low = high V m A object; high = high V m A object }

-- the choice, if there is one
abbrev pub choice : (List ℕ → ℕ) → ℕ → ℕ → List Access → Option ℕ
choice V k m A = option_map (λ (item : Item). item.object) (slice_get (first_k 1 (map (by_high V m A) (candidates V k m A))) 0)

-- the unknown grades of the object, if there is one
abbrev pub grades_of_choice : List (List Row) → List Access → Option ℕ → List Access
grades_of_choice D A None = []
grades_of_choice D A (Some object) = missing_grades D A object

-- what follows the row of a depth
abbrev pub phase_after : (List ℕ → ℕ) → ℕ → ℕ → ℕ → List (List Row) → List Access → List Access
phase_after V k phase depth D A = if (depth % phase) == 0 then grades_of_choice D A (choice V k (length D) A) else []

-- the blocks down to a depth
abbrev pub ca_run_to : (List ℕ → ℕ) → ℕ → ℕ → List (List Row) → ℕ → List Access
ca_run_to V k phase D zero = []
ca_run_to V k phase D (suc depth) =
    (ca_run_to V k phase D depth ++ sorted_block 0 (suc depth) D)
    ++ phase_after V k phase (suc depth) D (ca_run_to V k phase D depth ++ sorted_block 0 (suc depth) D)

-- the least depth at whose end the algorithm is quiet
abbrev pub ca_depth : (List ℕ → ℕ) → ℕ → ℕ → List (List Row) → ℕ
ca_depth V k phase D = least_from (λ depth. is_quiet V k (length D) D (ca_run_to V k phase D depth)) (length (objects_of D) - 1) 1

-- the accesses down to this depth
abbrev pub ca_blocks : (List ℕ → ℕ) → ℕ → ℕ → List (List Row) → List Access
ca_blocks V k phase D = ca_run_to V k phase D (ca_depth V k phase D)

-- what the algorithm reads, which the laws join to `IsCombinedRun`
abbrev pub ca_run : (List ℕ → ℕ) → ℕ → ℕ → List (List Row) → List Access
ca_run V k phase D = ca_blocks V k phase D ++ finish V k D (ca_blocks V k phase D)

-- what it answers: the first k seen objects at this depth, by aggregate falling, then by number rising
abbrev pub ca_answer : (List ℕ → ℕ) → ℕ → ℕ → List (List Row) → List Item
ca_answer V k phase D = first_k k (map (scored V D) (item_objects (first_seen V k (length D) (ca_blocks V k phase D))))
