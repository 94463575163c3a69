use Rattle.std.proofs.Common.{subst}
use Rattle.nra_core.specs.Machine.{MakesItsRun}
use Rattle.nra_core.proofs.Runs.{kept_makes}
use Rattle.nra_core.proofs.nra.Nra.transcript.Goals as goal

pub returns-clause-run : goal.returns-clause-run
returns-clause-run c =
    let a = c.self.inside in
    subst MakesItsRun c.self.view_is (kept_makes a.base a.late a.place c.self.invariant.kept)
