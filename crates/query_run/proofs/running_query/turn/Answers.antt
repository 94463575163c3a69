use Rattle.std.proofs.Common.{refl, ◌∙◌}
use Rattle.query_run.proofs.Turning.{turn_may, turn_made}
use Rattle.query_run.proofs.running_query.turn.Goals as goal

pub answer-requires-clause-may : goal.answer-requires-clause-may
answer-requires-clause-may c =
    turn_may c.args.states.now.items c.args.query.now c.look_at-look.new.state c.look_at-look.new.waiting c.look_at-look.result c.need-need.result c.from.result c.index-source.result.now _
    c.requires.served c.requires.going c.requires.sound c.need-need.ensures.need (c.from.ensures ∙ c.list_needed-list.ensures) c.index-source.ensures c.index_mut.ensures.value c.look_at-look.ensures.looks

pub returns : goal.returns
returns c =
    turn_made c.args.states.now.items c.args.query.now c.answer.new.self c.look_at-look.new.state c.look_at-look.new.waiting c.look_at-look.result c.need-need.result c.from.result c.index-source.result.now _ (record c.args.query.now { waiting = c.look_at-look.new.waiting })
    c.requires.served c.requires.going c.need-need.ensures.need (c.from.ensures ∙ c.list_needed-list.ensures) c.index-source.ensures c.index_mut.ensures.value c.look_at-look.ensures.looks
    refl c.answer.ensures.answers c.answer.ensures.run c.answer.ensures.same c.answer.ensures.sources c.answer.ensures.waiting
