-- What a machine of Fagin's algorithm makes and answers.
use Rattle.std.specs.Prelude.{List}
use Rattle.ranked_list.specs.declared.item.Item.{Item}
use Rattle.monotone_fn.specs.Value.{value}
use Rattle.machine_base.specs.Machine.{MachineState, MakesRun, IsAnswerBy}
use Rattle.algorithm_theory.specs.Fagin.{fagin_run, fagin_answer, IsNoShallower}

-- the machine makes the run of Fagin's algorithm
abbrev pub MakesItsRun : MachineState → Type 0
MakesItsRun t = MakesRun fagin_run t

-- the items are the answer of Fagin's algorithm
abbrev pub IsAnswer : MachineState → List Item → Type 0
IsAnswer t items = IsAnswerBy fagin_answer t items

-- on every table that agrees with the transcript the threshold algorithm stops no deeper than the machine has read
abbrev pub ReadsNoShallower : MachineState → Type 0
ReadsNoShallower t = IsNoShallower (value t.expr) t.k t.log.lists t.log.count t.log.accesses
