use Rattle.std.proofs.Common.{◌≡◌, subst, sym, ap, ◌∙◌}
use Rattle.algorithm_theory.specs.Fagin.{fagin_run}
use Rattle.machine_base.specs.Machine.{MachineState, IsInRange}
use Rattle.machine_base.proofs.MachineLaws.{in_range}
use Rattle.fa_core.specs.Machine.{MakesItsRun}
use Rattle.fa_core.proofs.Runs.{kept_makes}
use Rattle.fa_core.proofs.fa.Fa.need.Goals as goal

pub returns-clause-run : goal.returns-clause-run
returns-clause-run c =
    let a = c.self.inside in
    subst MakesItsRun c.self.view_is (kept_makes a.base a.stage c.self.invariant.kept)

pub returns-clause-range : goal.returns-clause-range
returns-clause-range c =
    let same : c.need.result ≡ c.args.self.now.need = c.need.ensures ∙ ap (λ (t : MachineState). t.need) c.self.view_is in
    subst (IsInRange c.args.self.now.log) (sym same) (in_range fagin_run c.args.self.now (returns-clause-run c))
