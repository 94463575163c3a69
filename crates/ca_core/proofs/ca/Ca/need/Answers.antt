use Rattle.std.proofs.Common.{◌≡◌, subst, sym, ap, ◌∙◌}
use Rattle.topk_theory.specs.Asked.{combined_run}
use Rattle.machine_base.specs.Machine.{MachineState, IsInRange}
use Rattle.machine_base.proofs.MachineLaws.{in_range}
use Rattle.ca_core.specs.Machine.{MakesItsRun}
use Rattle.ca_core.proofs.Runs.{kept_makes}
use Rattle.ca_core.proofs.ca.Ca.need.Goals as goal

pub returns-clause-run : goal.returns-clause-run
returns-clause-run c =
    let a = c.self.inside in
    subst MakesItsRun c.self.view_is (kept_makes a.base a.phase a.first.items a.stage c.self.invariant.kept c.self.invariant.paid)

pub returns-clause-range : goal.returns-clause-range
returns-clause-range c =
    let same : c.need.result ≡ c.args.self.now.need = c.need.ensures ∙ ap (λ (t : MachineState). t.need) c.self.view_is in
    subst (IsInRange c.args.self.now.log) (sym same) (in_range combined_run c.args.self.now (returns-clause-run c))
