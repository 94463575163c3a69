use Rattle.std.proofs.Common.{subst}
use Rattle.fa_core.specs.Machine.{MakesItsRun}
use Rattle.fa_core.proofs.Runs.{kept_makes}
use Rattle.fa_core.proofs.fa.Fa.transcript.Goals as goal

pub returns-clause-run : goal.returns-clause-run
returns-clause-run c =
    let a = c.self.inside in
    subst MakesItsRun c.self.view_is (kept_makes a.base a.stage c.self.invariant.kept)
