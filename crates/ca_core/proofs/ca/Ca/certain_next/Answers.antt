use Rattle.std.proofs.Common.{◌<◌, subst, sym}
use Rattle.topk_theory.specs.Asked.{combined_run}
use Rattle.machine_base.specs.Machine.{MachineState}
use Rattle.machine_base.specs.Certain.{Foresees}
use Rattle.ca_core.specs.Machine.{IsLeftOf}
use Rattle.ca_core.proofs.Certain.{left_is_foreseen, is_left}
use Rattle.ca_core.proofs.ca.Ca.certain_next.Goals as goal

pub returns-clause-certain : goal.returns-clause-certain
returns-clause-certain c =
    let a = c.self.inside in
    let here : c.args.list < a.base.transcript.lists = subst (λ (t : MachineState). c.args.list < t.log.lists) (sym c.self.view_is) c.requires in
    subst (λ (t : MachineState). Foresees combined_run t c.args.list c.left.result) c.self.view_is
    (left_is_foreseen a.base a.phase a.first.items a.stage c.args.list c.left.result c.self.invariant.kept c.self.invariant.paid here c.left.ensures)

pub returns-clause-left : goal.returns-clause-left
returns-clause-left c =
    let a = c.self.inside in
    subst (λ (t : MachineState). IsLeftOf t c.args.list c.left.result) c.self.view_is
    (is_left a.base a.phase a.first.items a.stage c.args.list c.left.result c.self.invariant.kept c.self.invariant.paid c.left.ensures)
