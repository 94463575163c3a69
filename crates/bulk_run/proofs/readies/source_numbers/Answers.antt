use Rattle.std.proofs.Common.{List, ℕ, [], ◌∷◌, ◌++◌, sym, ap, ◌∙◌}
use Rattle.topk_theory.proofs.ListNumbers.{range_more}
use Rattle.bulk_run.proofs.readies.source_numbers.Goals as goal

pub loop-list-preserved : goal.loop-list-preserved
loop-list-preserved c =
    c.in_ok-push.ensures.items ∙ ap (λ (xs : List ℕ). xs ++ c.loop-list.list ∷ []) c.loop-list.invariant ∙ sym (range_more c.loop-list.list)
