use Rattle.std.proofs.Common.{ap, inl, inr, rules, subst, ◌∙◌}
use Rattle.source_api.specs.declared.source.Trouble.TheVariants.{Fail}
use Rattle.source_api.specs.Counting.{TroubleHasCause}
use Rattle.query_server.proofs.ReopenLaws.{reopens_by, reopens_not}
use Rattle.query_server.proofs.reopening.ask_again.Goals as goal

pub returns-in-Ok-clause-reopens : goal.returns-in-Ok-clause-reopens
returns-in-Ok-clause-reopens g c =
    let e = c.in-Ok.ensures in
    reopens_by g.S.Source.list g.S.Source.counts g.S.Source.calls g.S.Source.at_hand c.args.source.now c.size.new.self c.in-Ok.size _ c.entry_of.result
    e.answered e.list e.later e.given e.quiet e.size c.entry_of.ensures.states (search rules)

pub returns-in-Err-Fail-Failed-clause-reopens : goal.returns-in-Err-Fail-Failed-clause-reopens
returns-in-Err-Fail-Failed-clause-reopens g c =
    let e = c.in-Err-Fail-Failed.ensures in
    reopens_not g.S.Source.list g.S.Source.counts g.S.Source.calls g.S.Source.at_hand c.args.source.now c.size.new.self c.in-Err-Fail-Failed.field-0 _
    e.refused e.list e.later e.given
    (inl (subst (TroubleHasCause (g.S.Source.counts c.args.source.now) (g.S.Source.counts c.size.new.self))
    (c.in-Err-Fail-Failed.field-0-is ∙ ap Fail c.in-Err-Fail-Failed.field-0-0-is) e.cause))

pub returns-in-Err-Fail-Garbled-clause-reopens : goal.returns-in-Err-Fail-Garbled-clause-reopens
returns-in-Err-Fail-Garbled-clause-reopens g c =
    let e = c.in-Err-Fail-Garbled.ensures in
    reopens_not g.S.Source.list g.S.Source.counts g.S.Source.calls g.S.Source.at_hand c.args.source.now c.size.new.self c.in-Err-Fail-Garbled.field-0 _
    e.refused e.list e.later e.given
    (inr (subst (TroubleHasCause (g.S.Source.counts c.args.source.now) (g.S.Source.counts c.size.new.self))
    (c.in-Err-Fail-Garbled.field-0-is ∙ ap Fail c.in-Err-Fail-Garbled.field-0-0-is) e.cause))
