use Rattle.std.proofs.Common.{subst}
use Rattle.ta_core.specs.Machine.{MakesItsRun}
use Rattle.ta_core.specs.Shown.{reading_of}
use Rattle.ta_core.proofs.Runs.{kept_makes}
use Rattle.ta_core.proofs.ta.Ta.transcript.Goals as goal

pub returns-clause-run : goal.returns-clause-run
returns-clause-run c =
    let a = c.self.inside in
    subst MakesItsRun c.self.view_is (kept_makes a.halting a.base a.board (reading_of a.progress) c.self.invariant.kept)
