use Rattle.std.proofs.Common.{sym, ◌∙◌}
use Rattle.query_text.proofs.DraftLaws.{closes_weighted, closes_plain}
use Rattle.query_text.proofs.frame.Frame.close.Goals as goal

pub returns-then-is_weighted-clause-ok : goal.returns-then-is_weighted-clause-ok
returns-then-is_weighted-clause-ok c =
    closes_weighted c.args.self _ _ _ (sym c.is_weighted.ensures ∙ c.if-is_weighted.true)
    c.in_ok-terms.ensures.ok c.from_vec.ensures c.unwrap_or-weight.ensures

pub returns-clause-ok : goal.returns-clause-ok
returns-clause-ok c =
    closes_plain c.args.self _ _ c.args.node _ (sym c.is_weighted.ensures ∙ c.if-is_weighted.false)
    c.in_ok-nodes.ensures.ok c.from_vec-2.ensures c.over.ensures.shows c.over.ensures.plain
