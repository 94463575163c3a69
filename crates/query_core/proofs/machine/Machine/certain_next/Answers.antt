use Rattle.query_core.specs.Machines.{method_of, state_of}
use Rattle.query_core.specs.Methods.{run_with}
use Rattle.query_core.proofs.Foreseen.{nothing_foreseen}
use Rattle.query_core.proofs.Halting.{threshold_foresees}
use Rattle.query_core.proofs.machine.Machine.certain_next.Goals as goal

pub returns-in-Fa-clause-certain : goal.returns-in-Fa-clause-certain
returns-in-Fa-clause-certain c = nothing_foreseen (run_with (method_of c.args.self.now)) (state_of c.args.self.now) c.args.list

pub returns-in-Taz-clause-certain : goal.returns-in-Taz-clause-certain
returns-in-Taz-clause-certain c = nothing_foreseen (run_with (method_of c.args.self.now)) (state_of c.args.self.now) c.args.list

pub returns-in-Ta-clause-certain : goal.returns-in-Ta-clause-certain
returns-in-Ta-clause-certain c =
    threshold_foresees c.args.self.now c.in-Ta.machine c.args.list c.certain_next.result c.in-Ta.is c.certain_next.ensures.certain
