use Rattle.std.proofs.Common.{unwrap_or, refl, sym, ap, ◌∙◌}
use Rattle.query_text.proofs.DraftLaws.{where_ok, adds_weighted, adds_plain}
use Rattle.query_text.proofs.frame.Frame.add.Goals as goal

pub returns-then-is_weighted-clause-ok : goal.returns-then-is_weighted-clause-ok
returns-then-is_weighted-clause-ok c =
    where_ok c.push.result
    (λ pushed. adds_weighted c.args.self.now _ _ (sym c.is_weighted.ensures ∙ c.if-is_weighted.true) refl c.take-weight.ensures.after refl
    pushed
    (c.unwrap_or-weight.ensures ∙ ap (λ w. unwrap_or w 0) c.take-weight.ensures.value))
    c.push.ensures.ok

pub returns-clause-ok : goal.returns-clause-ok
returns-clause-ok c =
    where_ok c.push-2.result
    (λ pushed. adds_plain c.args.self.now _ c.args.node (sym c.is_weighted.ensures ∙ c.if-is_weighted.false) refl c.take-weight.ensures.after refl pushed)
    c.push-2.ensures.ok
