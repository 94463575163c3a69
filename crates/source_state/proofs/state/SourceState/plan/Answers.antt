use Rattle.std.proofs.Common.{sym, ap, ◌∙◌, is_some, arith}
use Rattle.source_state.specs.Looking.{reach_of}
use Rattle.source_state.proofs.LookLaws.{pending_is, page_is}
use Rattle.source_state.proofs.state.SourceState.plan.Goals as goal

pub returns-in-Some-clause-serves : goal.returns-in-Some-clause-serves
returns-in-Some-clause-serves c = record { first = sym c.in-Some.ensures; pending = pending_is c.args.self.now c.in-Some.object (sym c.in-Some.ensures) }

pub returns-clause-plan : goal.returns-clause-plan
returns-clause-plan c =
    page_is c.args.self.now c.args.page c.args.ahead c.rows-from.result c.reach-reach.result _ (sym c.paused.ensures ∙ c.if-paused.false) (sym c.first_pending.ensures ∙ c.in_default.is)
    c.rows-from.ensures
    (c.reach-reach.ensures.reach ∙ ap (λ want. reach_of want c.args.page c.args.ahead c.count-count.result) c.want.ensures ∙ ap (λ count. reach_of c.args.self.now.want c.args.page c.args.ahead count) c.count-count.ensures.count)
    (sym (c.is_some.ensures ∙ ap is_some c.row_fault.ensures) ∙ c.if-is_some.false) (omega arith) (omega arith)
