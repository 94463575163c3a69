-- Where a machine is in the run of Fagin's algorithm on a table that agrees with its transcript.
use Rattle.std.specs.Prelude.{◌≡◌, ℕ, List, ◌++◌, drop}
use Rattle.ranked_list.specs.declared.row.Row.{Row}
use Rattle.topk_theory.specs.declared.access.Access.{Access}
use Rattle.topk_theory.specs.Transcript.{seen_objects}
use Rattle.topk_theory.specs.NoRandom.{nra_run_to}
use Rattle.machine_base.specs.Depths.{IsReached, read_to}
use Rattle.machine_base.specs.Asking.{all_missing}
use Rattle.algorithm_theory.specs.Fagin.{fa_stop, fa_seen, fa_run}
use Rattle.fa_core.specs.declared.stage.Stage.{Stage}
use Rattle.fa_core.specs.declared.stage.Stage.TheVariants as stages

-- the depths above are read, and of this one the lists before the next
pub record OnRow (k n : ℕ) (D : List (List Row)) (A : List Access) (list depth : ℕ) : Type 0 where
  pub at : IsReached (fa_stop k D) n depth
  pub made : A ≡ read_to (nra_run_to D) D depth list

-- the rows are read, and only unknown grades of the seen objects are left, of those from a place on
pub record OnAsks (k : ℕ) (D : List (List Row)) (A : List Access) (place : ℕ) : Type 0 where
  pub seen : seen_objects A ≡ fa_seen k D
  pub made : A ++ all_missing D A (drop place (seen_objects A)) ≡ fa_run k D

-- nothing is left
pub record OnEnd (k : ℕ) (D : List (List Row)) (A : List Access) : Type 0 where
  pub seen : seen_objects A ≡ fa_seen k D
  pub made : A ≡ fa_run k D

-- the machine is on the run of the table
abbrev pub OnTable : ℕ → ℕ → List (List Row) → List Access → Stage → Type 0
OnTable k n D A (stages.Row list depth common) = OnRow k n D A list depth
OnTable k n D A (stages.Asking ask) = OnAsks k D A ask.place
OnTable k n D A stages.Done = OnEnd k D A
