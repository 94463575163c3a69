use Rattle.query_core.proofs.Halting.{threshold_makes}
use Rattle.query_core.proofs.machine.Machine.transcript.Goals as goal

pub returns-in-Ta-clause-run : goal.returns-in-Ta-clause-run
returns-in-Ta-clause-run c = threshold_makes c.args.self.now c.in-Ta.machine c.in-Ta.is c.transcript.ensures.run
