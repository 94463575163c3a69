use Rattle.std.proofs.Common.{◌≡◌, length, ap, ◌∙◌, arith}
use Rattle.source_api.specs.Counting.{gave_rows}
use Rattle.source_node.proofs.PageLaws.{page_starved, page_stopped}
use Rattle.source_node.proofs.answer.add_page.Goals as goal

pub returns-in-Ok-clause-stops : goal.returns-in-Ok-clause-stops
returns-in-Ok-clause-stops g c =
    let whole : c.in-Ok.page.len ≡ length c.in-Ok.page.items = omega (arith, c.in-Ok.page.ok.0) in
    page_starved c.args.from c.args.count c.in-Ok.page.items (g.S.Source.counts c.args.source.now) (g.S.Source.counts c.page.new.self)
    (g.S.Source.calls c.args.source.now) (g.S.Source.calls c.page.new.self) c.in-Ok.ensures.answered
    (c.in-Ok.ensures.quiet ∙ ap (λ n. gave_rows n (g.S.Source.counts c.args.source.now)) whole)

pub returns-clause-stops : goal.returns-clause-stops
returns-clause-stops g c =
    page_stopped c.args.from c.args.count (g.S.Source.counts c.args.source.now) (g.S.Source.counts c.page.new.self)
    (g.S.Source.calls c.args.source.now) (g.S.Source.calls c.page.new.self) c.in-Err.why c.in-Err.ensures.refused c.in-Err.ensures.cause c.in-Err.ensures.alone
