-- What a machine over restricted lists makes and answers.
use Rattle.std.specs.Prelude.{Bool, List}
use Rattle.ranked_list.specs.declared.item.Item.{Item}
use Rattle.monotone_fn.specs.Value.{value}
use Rattle.machine_base.specs.Machine.{MachineState, MakesRun, IsAnswerBy}
use Rattle.algorithm_theory.specs.Restricted.{restricted_run, restricted_answer, IsNearBestIn}
use Rattle.restricted_core.specs.Lists.{reads}

-- what contracts see of such a machine: the state of a machine, and of each list whether it can be read in order
pub record RestrictedState : Type 0 where
  pub state : MachineState
  pub sorted : List Bool

-- the machine makes the run of the algorithm over these lists
abbrev pub MakesItsRun : RestrictedState → Type 0
MakesItsRun t = MakesRun (restricted_run (reads t.sorted)) t.state

-- the items are its answer
abbrev pub IsAnswer : RestrictedState → List Item → Type 0
IsAnswer t items = IsAnswerBy (restricted_answer (reads t.sorted)) t.state items

-- on each table that agrees, the machine has read no deeper than the objects that a tame transcript which fixes an answer there sees, and k more,
-- where that one reads no other lists in order either
abbrev pub ReadsNearBest : RestrictedState → Type 0
ReadsNearBest t = IsNearBestIn (value t.state.expr) t.state.k t.state.log.lists t.state.log.count (reads t.sorted) t.state.log.accesses
