use Rattle.std.proofs.Common.{◌≡◌, subst, sym, ap, ◌∙◌}
use Rattle.topk_theory.specs.Asked.{no_random_run}
use Rattle.machine_base.specs.Machine.{MachineState, IsInRange, IsNoGrade}
use Rattle.machine_base.proofs.MachineLaws.{in_range}
use Rattle.nra_core.specs.Machine.{MakesItsRun}
use Rattle.nra_core.proofs.Runs.{kept_makes, no_grade}
use Rattle.nra_core.proofs.nra.Nra.need.Goals as goal

pub returns-clause-run : goal.returns-clause-run
returns-clause-run c =
    let a = c.self.inside in
    subst MakesItsRun c.self.view_is (kept_makes a.base a.late a.place c.self.invariant.kept)

pub returns-clause-range : goal.returns-clause-range
returns-clause-range c =
    let same : c.need.result ≡ c.args.self.now.need = c.need.ensures ∙ ap (λ (t : MachineState). t.need) c.self.view_is in
    subst (IsInRange c.args.self.now.log) (sym same) (in_range no_random_run c.args.self.now (returns-clause-run c))

pub returns-clause-rows : goal.returns-clause-rows
returns-clause-rows c = subst IsNoGrade (sym c.need.ensures) (no_grade c.self.inside.place)
