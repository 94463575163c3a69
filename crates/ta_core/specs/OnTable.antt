-- Where a machine is in its run on a table that agrees with its transcript.
use Rattle.std.specs.Prelude.{◌≡◌, ◌≢◌, ◌<◌, ℕ, ◌-◌, false, not, List, [], ◌∷◌, ◌++◌, length, map, take, drop, filter, AllPairs, Contains, MatchBool, nat_lt}
use Rattle.std.specs.List.{flat_map}
use Rattle.ranked_list.specs.declared.row.Row.{Row}
use Rattle.ranked_list.specs.declared.item.Item.{Item}
use Rattle.topk_theory.specs.declared.access.Access.{Access}
use Rattle.topk_theory.specs.Aggregate.{objects_of, grades_of}
use Rattle.topk_theory.specs.Transcript.{each_once}
use Rattle.topk_theory.specs.Threshold.{row_at, stands, random_block, ta_run_to}
use Rattle.machine_base.specs.Depths.{IsReached, read_to}
use Rattle.machine_base.specs.Board.{OnBoard}
use Rattle.ta_core.specs.Halting.{Halt, halts_at, halting_run}
use Rattle.ta_core.specs.Reading.{RowProgress}

-- the objects and the grades of lists at a depth
abbrev pub objects_at : ℕ → List (List Row) → List ℕ
objects_at depth lists = map (λ rows. (row_at rows depth).object) lists

abbrev pub bottoms_at : ℕ → List (List Row) → List ℕ
bottoms_at depth lists = map (λ rows. (row_at rows depth).grade) lists

-- in a row: its first lists are read, and those of its objects that are new wait
pub record OnRow (V : List ℕ → ℕ) (halt : Halt) (n : ℕ) (D : List (List Row)) (A : List Access) (r : RowProgress) : Type 0 where
  pub at : IsReached (halts_at V halt D) n r.depth
  pub unread : length r.objects < length D
  pub objects_are : r.objects ≡ objects_at r.depth (take (length r.objects) D)
  pub bottoms_are : r.bottoms ≡ bottoms_at r.depth (take (length r.objects) D)
  pub waiting_are : r.waiting ≡ filter (λ object. not (stands D (r.depth - 1) object)) (each_once r.objects)
  pub made : A ≡ read_to (ta_run_to D) D r.depth (length r.objects)

-- the random accesses to come of the objects that wait, where these grades of the first are there
abbrev pub asks : List (List Row) → ℕ → List ℕ → List ℕ → List Access
asks D depth [] grades = []
asks D depth (object ∷ waiting) grades =
    random_block (length grades) depth object (drop (length grades) D) ++ flat_map (λ other. random_block 0 depth other D) waiting

-- the grades are the first ones of the first object
abbrev pub AreFirstGrades : List (List Row) → List ℕ → List ℕ → Type 0
AreFirstGrades D [] grades = Unit {0}
AreFirstGrades D (object ∷ waiting) grades = grades ≡ take (length grades) (grades_of D object)

-- the row is read, and what is missing of the grades of its new objects is to come
pub record OnAsks (V : List ℕ → ℕ) (halt : Halt) (n : ℕ) (D : List (List Row)) (A : List Access) (r : RowProgress) : Type 0 where
  pub at : IsReached (halts_at V halt D) n r.depth
  pub objects_are : r.objects ≡ objects_at r.depth D
  pub bottoms_are : r.bottoms ≡ bottoms_at r.depth D
  pub new : (object : ℕ) → Contains r.waiting object → (stands D (r.depth - 1) object ≡ false) × Contains (objects_of D) object
  pub distinct : AllPairs (λ (one : ℕ) (other : ℕ). one ≢ other) r.waiting
  pub grades_are : AreFirstGrades D r.waiting r.grades
  pub ahead : A ++ asks D r.depth r.waiting r.grades ≡ ta_run_to D r.depth

-- the run is made
pub record IsMade (V : List ℕ → ℕ) (halt : Halt) (D : List (List Row)) (A : List Access) (r : RowProgress) : Type 0 where
  pub run : A ≡ halting_run V halt D
  pub none : r.waiting ≡ []

abbrev pub OnReading : (List ℕ → ℕ) → Halt → ℕ → List (List Row) → List Access → RowProgress → Type 0
OnReading V halt n D A r = MatchBool r.done (IsMade V halt D A r) (MatchBool (nat_lt (length r.objects) (length D)) (OnRow V halt n D A r) (OnAsks V halt n D A r))

-- the machine is on the run of the table
pub record OnTable (V : List ℕ → ℕ) (halt : Halt) (n : ℕ) (D : List (List Row)) (A : List Access) (r : RowProgress) (items : List Item) : Type 0 where
  pub reading : OnReading V halt n D A r
  pub board : OnBoard V D A r.waiting items
