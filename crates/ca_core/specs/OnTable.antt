-- Where a machine is in the run of the combined algorithm on a table that agrees with its transcript.
use Rattle.std.specs.Prelude.{◌≡◌, ℕ, Bool, List, ◌++◌, length, drop}
use Rattle.ranked_list.specs.declared.row.Row.{Row}
use Rattle.topk_theory.specs.declared.access.Access.{Access}
use Rattle.topk_theory.specs.Threshold.{item_objects}
use Rattle.topk_theory.specs.NoRandom.{first_seen, is_quiet}
use Rattle.topk_theory.specs.Combined.{missing_grades, ca_run_to, ca_blocks, ca_run}
use Rattle.machine_base.specs.Depths.{IsReached, read_to}
use Rattle.machine_base.specs.Asking.{all_missing}
use Rattle.ca_core.specs.declared.stage.Stage.{Stage}
use Rattle.ca_core.specs.declared.stage.Stage.TheVariants as stages

-- whether the algorithm is quiet at the end of a depth
abbrev pub quiet_at : (List ℕ → ℕ) → ℕ → ℕ → List (List Row) → ℕ → Bool
quiet_at V k phase D depth = is_quiet V k (length D) D (ca_run_to V k phase D depth)

-- the depths above are read, and of this one the lists before the next
pub record OnRow (V : List ℕ → ℕ) (k phase n : ℕ) (D : List (List Row)) (A : List Access) (list depth : ℕ) : Type 0 where
  pub at : IsReached (quiet_at V k phase D) n depth
  pub made : A ≡ read_to (ca_run_to V k phase D) D depth list

-- of this depth only unknown grades of the choice are left
pub record OnChoice (V : List ℕ → ℕ) (k phase n : ℕ) (D : List (List Row)) (A : List Access) (object depth : ℕ) : Type 0 where
  pub at : IsReached (quiet_at V k phase D) n depth
  pub made : A ++ missing_grades D A object ≡ ca_run_to V k phase D depth

-- only unknown grades of the first k are left, of the objects from a place on
pub record OnFinish (V : List ℕ → ℕ) (k phase : ℕ) (D : List (List Row)) (A : List Access) (objects : List ℕ) (place : ℕ) : Type 0 where
  pub first : objects ≡ item_objects (first_seen V k (length D) (ca_blocks V k phase D))
  pub made : A ++ all_missing D A (drop place objects) ≡ ca_run V k phase D

-- nothing is left
pub record OnEnd (V : List ℕ → ℕ) (k phase : ℕ) (D : List (List Row)) (A : List Access) (objects : List ℕ) : Type 0 where
  pub first : objects ≡ item_objects (first_seen V k (length D) (ca_blocks V k phase D))
  pub made : A ≡ ca_run V k phase D

-- the machine is on the run of the table, where these are the first k, once they are read
abbrev pub OnTable : (List ℕ → ℕ) → ℕ → ℕ → ℕ → List (List Row) → List Access → List ℕ → Stage → Type 0
OnTable V k phase n D A objects (stages.Row list depth) = OnRow V k phase n D A list depth
OnTable V k phase n D A objects (stages.Choice list object depth) = OnChoice V k phase n D A object depth
OnTable V k phase n D A objects (stages.Finish ask) = OnFinish V k phase D A objects ask.place
OnTable V k phase n D A objects stages.Done = OnEnd V k phase D A objects
