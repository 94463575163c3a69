use Rattle.std.proofs.Common.{ℕ, length, sym, ap, subst, ◌∙◌, arith}
use Rattle.ranked_list.specs.declared.need.Need.{Need}
use Rattle.source_pool.specs.Looks.{MayLookFor, KnowsOn}
use Rattle.source_pool.specs.Passes.{hold_at, OthersStay}
use Rattle.query_run.specs.Inquiries.{list_needed, source_needed}
use Rattle.query_run.proofs.Steps.{placed_at, source_read, at_need, looked_may, looks_once, sees_on, missing_there}
use Rattle.query_run.proofs.run.look_once.Goals as goal

pub look-look-requires-clause-need : goal.look-look-requires-clause-need
look-look-requires-clause-need g c =
    let place = placed_at c.args.pass.now c.args.query.now c.requires.reading c.requires.going in
    let at = source_read c.args.pass.now c.args.query.now c.need-need.result c.from.result c.index-source.result.now place
    c.need-need.ensures.need (c.from.ensures ∙ c.list_needed-list.ensures) c.index-source.ensures in
    subst (λ (z : ℕ × Need). MayLookFor (hold_at c.args.pass.now z.0).pass.1 z.1) (λ i. (sym at i, sym c.need-need.ensures.need i)) place.may

pub answer-requires-clause-list : goal.answer-requires-clause-list
answer-requires-clause-list g c = c.list_needed-list.ensures ∙ ap list_needed c.need-need.ensures.need

pub answer-requires-clause-may : goal.answer-requires-clause-may
answer-requires-clause-may g c =
    looked_may c.args.pass.now c.look-look.new.pass c.args.query.now c.look-look.result c.requires.reading c.requires.going (c.look-look.ensures.own.size ∙ sym c.requires.own.size)
    (at_need c.args.pass.now c.look-look.new.pass c.args.query.now c.need-need.result c.from.result c.index-source.result.now c.look-look.result
    c.requires.reading c.requires.going c.need-need.ensures.need (c.from.ensures ∙ c.list_needed-list.ensures) c.index-source.ensures
    (record {
      others = c.look-look.ensures.others;
      look = c.look-look.ensures.look;
      waits = c.look-look.ensures.waits;
      said = c.look-look.ensures.answer;
      shown = c.look-look.ensures.shown;
      knows = c.look-look.ensures.knows;
      within = c.look-look.ensures.within;
    }))

pub returns-clause-look : goal.returns-clause-look
returns-clause-look g c =
    looks_once c.args.pass.now c.look-look.new.pass c.args.query.now c.answer.new.self c.look-look.result
    (at_need c.args.pass.now c.look-look.new.pass c.args.query.now c.need-need.result c.from.result c.index-source.result.now c.look-look.result
    c.requires.reading c.requires.going c.need-need.ensures.need (c.from.ensures ∙ c.list_needed-list.ensures) c.index-source.ensures
    (record {
      others = c.look-look.ensures.others;
      look = c.look-look.ensures.look;
      waits = c.look-look.ensures.waits;
      said = c.look-look.ensures.answer;
      shown = c.look-look.ensures.shown;
      knows = c.look-look.ensures.knows;
      within = c.look-look.ensures.within;
    }))
    c.answer.ensures.answers c.answer.ensures.run c.answer.ensures.same c.answer.ensures.sources c.answer.ensures.waiting

pub returns-clause-missing : goal.returns-clause-missing
returns-clause-missing g c =
    let place = placed_at c.args.pass.now c.args.query.now c.requires.reading c.requires.going in
    let at = source_read c.args.pass.now c.args.query.now c.need-need.result c.from.result c.index-source.result.now place
    c.need-need.ensures.need (c.from.ensures ∙ c.list_needed-list.ensures) c.index-source.ensures in
    let there = place.there in
    let size = c.requires.own.size in
    missing_there c.missing.result c.index-source.result.now (length c.args.pool.now) c.args.pass.now c.look-look.new.pass c.look-look.result c.args.query.now c.answer.new.self
    (omega (arith, at, there, size)) c.requires.reading
    (sees_on (source_needed c.args.query.now) c.args.pass.now c.look-look.new.pass (c.look-look.ensures.own.size ∙ sym c.requires.own.size)
    (subst (λ s. OthersStay s c.args.pass.now c.look-look.new.pass) at c.look-look.ensures.others)
    (subst (λ s. KnowsOn (hold_at c.args.pass.now s).pass.1 (hold_at c.look-look.new.pass s).pass.1) at c.look-look.ensures.knows))
    c.answer.ensures.sources c.answer.ensures.waiting c.missing.ensures c.answer.ensures.answers
