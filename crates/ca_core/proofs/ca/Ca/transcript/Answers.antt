use Rattle.std.proofs.Common.{subst}
use Rattle.ca_core.specs.Machine.{MakesItsRun}
use Rattle.ca_core.proofs.Runs.{kept_makes}
use Rattle.ca_core.proofs.ca.Ca.transcript.Goals as goal

pub returns-clause-run : goal.returns-clause-run
returns-clause-run c =
    let a = c.self.inside in
    subst MakesItsRun c.self.view_is (kept_makes a.base a.phase a.first.items a.stage c.self.invariant.kept c.self.invariant.paid)
