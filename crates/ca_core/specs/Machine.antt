-- What a machine of the combined algorithm makes and answers.
use Rattle.std.specs.Prelude.{◌≡◌, ◌⊎◌, ℕ, Some, List, ◌++◌, slice_get}
use Rattle.ranked_list.specs.declared.row.Row.{Row}
use Rattle.ranked_list.specs.declared.item.Item.{Item}
use Rattle.ranked_list.specs.declared.need.Need.{Need}
use Rattle.ranked_list.specs.declared.need.Need.TheVariants.{Row as RowAt, Grade, Done}
use Rattle.monotone_fn.specs.Value.{value}
use Rattle.topk_theory.specs.declared.access.Access.{Access}
use Rattle.topk_theory.specs.Asked.{combined_run, combined_answer}
use Rattle.topk_theory.specs.Combined.{phase_length, ca_run_to}
use Rattle.access_log.specs.Log.{AgreesWith}
use Rattle.machine_base.specs.Machine.{MachineState, MakesRun, IsAnswerBy, asked_of}
use Rattle.machine_base.specs.Asking.{all_missing}
use Rattle.machine_base.specs.Certain.{left_of}

-- the machine makes the run of the combined algorithm
abbrev pub MakesItsRun : MachineState → Type 0
MakesItsRun t = MakesRun combined_run t

-- the items are the answer of the combined algorithm
abbrev pub IsAnswer : MachineState → List Item → Type 0
IsAnswer t items = IsAnswerBy combined_answer t items

-- the accesses, and behind them the unknown grades of these objects, as a table has them
abbrev pub with_missing : MachineState → List ℕ → List (List Row) → List Access
with_missing t objects D = t.log.accesses ++ all_missing D t.log.accesses objects

-- on a table the unknown grades of these objects are the rest of a depth, or of the run
abbrev pub AreRest : MachineState → List ℕ → List (List Row) → Type 0
AreRest t objects D =
    ((depth : ℕ) × (with_missing t objects D ≡ ca_run_to (value t.expr) t.k (phase_length t.costs.sorted t.costs.random) D depth))
    ⊎ (with_missing t objects D ≡ combined_run (asked_of t) D)

-- the run asks for these objects next, the needed one first: on every table that agrees with the transcript they are the rest
pub record AreAskedNext (t : MachineState) (objects : List ℕ) (needed : ℕ) : Type 0 where
  pub first : slice_get objects 0 ≡ Some needed
  pub rest : (D : List (List Row)) → AgreesWith D t.log → AreRest t objects D

-- where a grade is needed the run asks for these objects
abbrev pub AsksFor : MachineState → List ℕ → Need → Type 0
AsksFor t objects (RowAt list depth) = Unit {0}
AsksFor t objects (Grade list object) = AreAskedNext t objects object
AsksFor t objects Done = Unit {0}

-- what is left of a list, by the objects that the run asks for
pub record IsLeftOf (t : MachineState) (list : ℕ) (need : Need) : Type 0 where
  pub objects : List ℕ
  pub asks : AsksFor t objects t.need
  pub left : need ≡ left_of t objects list
