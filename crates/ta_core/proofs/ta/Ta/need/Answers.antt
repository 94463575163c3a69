use Rattle.std.proofs.Common.{◌≡◌, subst, sym, ap, ◌∙◌}
use Rattle.machine_base.specs.Machine.{IsInRange}
use Rattle.machine_base.proofs.MachineLaws.{in_range}
use Rattle.ta_core.specs.Reading.{need_at}
use Rattle.ta_core.specs.Machine.{ThresholdState, run_halting, MakesItsRun}
use Rattle.ta_core.specs.Shown.{reading_of}
use Rattle.ta_core.proofs.Runs.{kept_makes}
use Rattle.ta_core.proofs.ta.Ta.need.Goals as goal

pub returns-clause-run : goal.returns-clause-run
returns-clause-run c =
    let a = c.self.inside in
    subst MakesItsRun c.self.view_is (kept_makes a.halting a.base a.board (reading_of a.progress) c.self.invariant.kept)

pub returns-clause-range : goal.returns-clause-range
returns-clause-range c =
    let a = c.self.inside in
    let same : c.need.result ≡ c.args.self.now.state.need =
    c.need.ensures ∙ ap (λ m. need_at m (reading_of a.progress)) c.lists.ensures.lists ∙ ap (λ (t : ThresholdState). t.state.need) c.self.view_is in
    subst (IsInRange c.args.self.now.state.log) (sym same) (in_range (run_halting c.args.self.now.halting) c.args.self.now.state (returns-clause-run c))
