use Rattle.std.proofs.Common.{◌≡◌, ◌<◌, [], subst, sym}
use Rattle.ranked_list.specs.declared.need.Need.TheVariants.{Row as RowAt, Done}
use Rattle.topk_theory.specs.Asked.{no_random_run}
use Rattle.machine_base.specs.Machine.{MachineState}
use Rattle.machine_base.specs.Certain.{Foresees, left_of}
use Rattle.nra_core.proofs.Certain.{row_foreseen, row_left, nothing_left}
use Rattle.nra_core.proofs.nra.Nra.certain_next.Goals as goal

pub returns-clause-certain : goal.returns-clause-certain
returns-clause-certain c =
    let a = c.self.inside in
    subst (λ (t : MachineState). Foresees no_random_run t c.args.list (RowAt c.args.list a.place.depth)) c.self.view_is
    (row_foreseen a.base a.late a.place c.args.list c.self.invariant.kept c.if-self.false (subst (λ (t : MachineState). c.args.list < t.log.lists) (sym c.self.view_is) c.requires))

pub returns-clause-left : goal.returns-clause-left
returns-clause-left c =
    let a = c.self.inside in
    subst (λ (t : MachineState). RowAt c.args.list a.place.depth ≡ left_of t [] c.args.list) c.self.view_is
    (row_left a.base a.place c.args.list c.if-self.false)

pub returns-then-self-clause-left : goal.returns-then-self-clause-left
returns-then-self-clause-left c =
    let a = c.self.inside in
    subst (λ (t : MachineState). Done ≡ left_of t [] c.args.list) c.self.view_is (nothing_left a.base a.place c.args.list c.if-self.true)
