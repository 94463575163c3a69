use Rattle.std.proofs.Common.{subst}
use Rattle.restricted_core.specs.Machine.{MakesItsRun}
use Rattle.restricted_core.proofs.Runs.{kept_makes}
use Rattle.restricted_core.proofs.taz.Taz.transcript.Goals as goal

pub returns-clause-run : goal.returns-clause-run
returns-clause-run c =
    let a = c.self.inside in
    subst MakesItsRun c.self.view_is (kept_makes a.base a.sorted.items a.board a.stage c.self.invariant.kept)
