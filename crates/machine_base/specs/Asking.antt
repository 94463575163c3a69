-- Asking for what is missing: the unknown grades of objects, object by object, and of each in the order of the lists.
use Rattle.std.specs.Prelude.{◌≡◌, ◌≢◌, ℕ, ◌+◌, Option, Some, None, List, [], ◌∷◌, ◌++◌, drop, take, All, AllPairs, Contains, slice_get}
use Rattle.std.specs.List.{flat_map}
use Rattle.ranked_list.specs.declared.row.Row.{Row}
use Rattle.topk_theory.specs.declared.access.Access.{Access}
use Rattle.topk_theory.specs.Transcript.{seen_objects}
use Rattle.topk_theory.specs.Combined.{unknown_lists, missing_grades}
use Rattle.machine_base.specs.declared.asking.Ask.{Ask}

-- the first of m lists whose grade of the object no access gave
abbrev pub next_unknown : ℕ → List Access → ℕ → Option ℕ
next_unknown m A object = slice_get (unknown_lists m A object) 0

-- the object at a place is asked for its next unknown grade, if it has one; else what comes later is
abbrev pub ask_at : Option ℕ → ℕ → ℕ → Option Ask → Option Ask
ask_at None object place later = later
ask_at (Some list) object place later = Some (record { list = list; object = object; place = place })

-- what is asked next of these objects, which stand from a place on
abbrev pub ask_from : ℕ → List Access → List ℕ → ℕ → Option Ask
ask_from m A [] place = None
ask_from m A (object ∷ objects) place = ask_at (next_unknown m A object) object place (ask_from m A objects (place + 1))

-- the unknown grades of these objects, as a table has them
abbrev pub all_missing : List (List Row) → List Access → List ℕ → List Access
all_missing D A objects = flat_map (missing_grades D A) objects

-- a seen object is asked for its grade in the first list that has an unknown one
pub record IsAskedFor (m : ℕ) (A : List Access) (object list : ℕ) : Type 0 where
  pub seen : Contains (seen_objects A) object
  pub next : next_unknown m A object ≡ Some list

-- all grades of the objects are known
abbrev pub AreKnown : ℕ → List Access → List ℕ → Type 0
AreKnown m A objects = All (λ object. unknown_lists m A object ≡ []) objects

-- the objects are seen ones, each once
pub record AreListed (A : List Access) (objects : List ℕ) : Type 0 where
  pub seen : All (Contains (seen_objects A)) objects
  pub apart : AllPairs (λ (one other : ℕ). one ≢ other) objects

-- the object at the place of the ask is asked for, and those before it are known
pub record IsAsking (m : ℕ) (A : List Access) (objects : List ℕ) (ask : Ask) : Type 0 where
  pub listed : AreListed A objects
  pub asked : IsAskedFor m A ask.object ask.list
  pub here : slice_get objects ask.place ≡ Some ask.object
  pub known : AreKnown m A (take ask.place objects)

-- the objects are known
pub record AreAsked (m : ℕ) (A : List Access) (objects : List ℕ) : Type 0 where
  pub listed : AreListed A objects
  pub known : AreKnown m A objects

-- what is so of what is asked next, whatever the table
abbrev pub AsksNext : ℕ → List Access → List ℕ → Option Ask → Type 0
AsksNext m A objects None = AreAsked m A objects
AsksNext m A objects (Some ask) = IsAsking m A objects ask

-- up to the end of a run only the unknown grades of the objects from the place of the ask on are left, and none where nothing is asked
abbrev pub LeavesAsks : List (List Row) → List Access → List ℕ → List Access → Option Ask → Type 0
LeavesAsks D A objects run None = A ≡ run
LeavesAsks D A objects run (Some ask) = A ++ all_missing D A (drop ask.place objects) ≡ run
