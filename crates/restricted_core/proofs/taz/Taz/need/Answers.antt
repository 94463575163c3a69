use Rattle.std.proofs.Common.{◌≡◌, subst, sym, ap, ◌∙◌}
use Rattle.machine_base.specs.Machine.{IsInRange}
use Rattle.machine_base.proofs.MachineLaws.{in_range}
use Rattle.algorithm_theory.specs.Restricted.{restricted_run}
use Rattle.restricted_core.specs.Lists.{reads}
use Rattle.restricted_core.specs.Machine.{RestrictedState, MakesItsRun}
use Rattle.restricted_core.proofs.Runs.{kept_makes}
use Rattle.restricted_core.proofs.taz.Taz.need.Goals as goal

pub returns-clause-run : goal.returns-clause-run
returns-clause-run c =
    let a = c.self.inside in
    subst MakesItsRun c.self.view_is (kept_makes a.base a.sorted.items a.board a.stage c.self.invariant.kept)

pub returns-clause-range : goal.returns-clause-range
returns-clause-range c =
    let same : c.need.result ≡ c.args.self.now.state.need = c.need.ensures ∙ ap (λ (t : RestrictedState). t.state.need) c.self.view_is in
    subst (IsInRange c.args.self.now.state.log) (sym same) (in_range (restricted_run (reads c.args.self.now.sorted)) c.args.self.now.state (returns-clause-run c))
