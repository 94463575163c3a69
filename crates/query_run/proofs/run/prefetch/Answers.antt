use Rattle.std.proofs.Common.{◌<◌, length, sym, ap, subst, ◌∙◌, arith}
use Rattle.query_run.specs.Inquiries.{source_of}
use Rattle.query_run.proofs.Ahead.{ahead_by, list_is, may_ahead, source_there}
use Rattle.query_run.proofs.Foreseen.{near_list, nothing_left, asked_for_left}
use Rattle.query_run.proofs.run.prefetch.Goals as goal

pub prefetch-open-requires-clause-source : goal.prefetch-open-requires-clause-source
prefetch-open-requires-clause-source g c =
    let t = source_there c.args.pass.now c.args.query.now c.args.list c.from.result c.index-source.result.now c.requires.reading c.requires.listed c.from.ensures c.index-source.ensures in
    let there = t.1 in
    let size = c.requires.own.size in
    omega (arith, there, size)

pub prefetch-open-requires-clause-need : goal.prefetch-open-requires-clause-need
prefetch-open-requires-clause-need g c =
    let t = source_there c.args.pass.now c.args.query.now c.args.list c.from.result c.index-source.result.now c.requires.reading c.requires.listed c.from.ensures c.index-source.ensures in
    may_ahead c.args.pass.now c.args.query.now c.certain_next-need.result c.args.list c.index-source.result.now c.requires.reading t.2 t.0 c.certain_next-need.ensures.certain.of
    (sym c.is_done.ensures ∙ c.if-is_done.false)

pub returns-clause-ahead : goal.returns-clause-ahead
returns-clause-ahead g c =
    let t = source_there c.args.pass.now c.args.query.now c.args.list c.from.result c.index-source.result.now c.requires.reading c.requires.listed c.from.ensures c.index-source.ensures in
    let is = list_is c.certain_next-need.result _ c.args.list c.certain_next-need.ensures.certain.of (sym c.is_done.ensures ∙ c.if-is_done.false) in
    ahead_by c.args.pass.now c.prefetch-open.new.pass c.args.query.now c.index-source.result.now c.certain_next-need.result c.prefetch-open.result (c.prefetch-open.ensures.own.size ∙ sym c.requires.own.size)
    c.prefetch-open.ensures.others (subst (λ l. l < length c.args.query.now.sources.items) (sym is) t.2) (ap (source_of c.args.query.now) is ∙ sym t.0)
    c.certain_next-need.ensures.certain.certain c.prefetch-open.ensures.asks c.prefetch-open.ensures.within

pub returns-then-not-far-clause-asked : goal.returns-then-not-far-clause-asked
returns-then-not-far-clause-asked g c =
    let t = source_there c.args.pass.now c.args.query.now c.args.list c.from.result c.index-source.result.now c.requires.reading c.requires.listed c.from.ensures c.index-source.ensures in
    near_list _ c.args.pass.now c.args.query.now c.args.list c.index-source.result.now c.far.result t.0 c.if-not-far.true c.far.ensures

pub returns-then-is_done-clause-asked : goal.returns-then-is_done-clause-asked
returns-then-is_done-clause-asked g c =
    let t = source_there c.args.pass.now c.args.query.now c.args.list c.from.result c.index-source.result.now c.requires.reading c.requires.listed c.from.ensures c.index-source.ensures in
    nothing_left _ c.args.pass.now c.args.query.now c.args.list c.index-source.result.now c.far.result c.certain_next-need.result t.0 c.if-not-far.false c.far.ensures
    c.certain_next-need.ensures.left (sym c.is_done.ensures ∙ c.if-is_done.true)

pub returns-clause-asked : goal.returns-clause-asked
returns-clause-asked g c =
    let t = source_there c.args.pass.now c.args.query.now c.args.list c.from.result c.index-source.result.now c.requires.reading c.requires.listed c.from.ensures c.index-source.ensures in
    asked_for_left _ c.args.pass.now c.prefetch-open.new.pass c.args.query.now c.args.list c.index-source.result.now c.far.result c.certain_next-need.result c.prefetch-open.result
    t.0 c.if-not-far.false c.far.ensures c.certain_next-need.ensures.left (sym c.is_done.ensures ∙ c.if-is_done.false) c.prefetch-open.ensures.asks c.prefetch-open.ensures.others
