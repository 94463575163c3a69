-- What the machine makes and answers, by its rule of halting: the threshold algorithm, the one within a factor, or the one stopped early.
use Rattle.std.specs.Prelude.{ℕ, List, All, Contains}
use Rattle.ranked_list.specs.declared.row.Row.{Row}
use Rattle.ranked_list.specs.declared.item.Item.{Item}
use Rattle.monotone_fn.specs.Value.{value}
use Rattle.topk_theory.specs.Asked.{Run, Answering, threshold_run, threshold_answer}
use Rattle.topk_theory.specs.Transcript.{seen_objects}
use Rattle.topk_theory.specs.Threshold.{item_objects}
use Rattle.algorithm_theory.specs.Within.{Factor, IsWithin, FixesWithin}
use Rattle.algorithm_theory.specs.Nearby.{within_run, within_answer, early_stopped_run, early_stopped_answer}
use Rattle.algorithm_theory.specs.Guarantee.{early_guarantee}
use Rattle.access_log.specs.Log.{AgreesWith}
use Rattle.machine_base.specs.Machine.{MachineState, MakesRun, AreExact, IsAnswerBy}
use Rattle.ta_core.specs.declared.halting.Halting.{Halting}
use Rattle.ta_core.specs.declared.halting.Halting.TheVariants.{Exact, Within, Early}

-- what contracts see of the machine: the state of a machine, and when it halts
pub record ThresholdState : Type 0 where
  pub state : MachineState
  pub halting : Halting

-- the run of the algorithm that halts so
abbrev pub run_halting : Halting → Run
run_halting Exact = threshold_run
run_halting (Within p q) = within_run (record { p = p; q = q })
run_halting (Early depth) = early_stopped_run depth

-- the machine makes it
abbrev pub MakesItsRun : ThresholdState → Type 0
MakesItsRun t = MakesRun (run_halting t.halting) t.state

-- the items' objects are within a factor on every table that agrees with the transcript
pub record AreWithin (factor : Factor) (t : MachineState) (items : List Item) : Type 0 where
  pub on_each : (D : List (List Row)) → AgreesWith D t.log → IsWithin (value t.expr) t.k factor D (item_objects items)

-- the transcript fixes that they are
pub record AreFixedWithin (factor : Factor) (t : MachineState) (items : List Item) : Type 0 where
  pub fixes : FixesWithin (value t.expr) t.k factor t.log.lists t.log.count t.log.accesses (item_objects items)

-- the items are the algorithm's answer, within the factor, fixed to be so near, and their objects were seen
pub record IsAnswerWithin (answer : Answering) (factor : Factor) (t : MachineState) (items : List Item) : Type 0 where
  pub exact : AreExact answer t items
  pub near : AreWithin factor t items
  pub fixed : AreFixedWithin factor t items
  pub seen : All (Contains (seen_objects t.log.accesses)) (item_objects items)

-- the guarantee of an early stop with such items, by the transcript
abbrev pub guarantee_of : MachineState → List Item → Factor
guarantee_of t items = early_guarantee (value t.expr) t.log.lists t.log.accesses (item_objects items)

-- the items are the answer of the algorithm that halts so: a top k, within its factor, or within the guarantee of its transcript
abbrev pub IsAnswerHalting : Halting → MachineState → List Item → Type 0
IsAnswerHalting Exact t items = IsAnswerBy threshold_answer t items
IsAnswerHalting (Within p q) t items = IsAnswerWithin (within_answer (record { p = p; q = q })) (record { p = p; q = q }) t items
IsAnswerHalting (Early depth) t items = IsAnswerWithin (early_stopped_answer depth) (guarantee_of t items) t items

abbrev pub IsAnswer : ThresholdState → List Item → Type 0
IsAnswer t items = IsAnswerHalting t.halting t.state items
