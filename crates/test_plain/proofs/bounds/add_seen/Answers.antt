use Rattle.std.proofs.Common.{◌∙◌, ◌++◌, ◌∷◌, [], ℕ, cond, ap}
use Rattle.topk_theory.proofs.AgreementNames.{has}
use Rattle.test_plain.proofs.Seeing.{seen_same, seen_more}
use Rattle.test_plain.proofs.bounds.add_seen.Goals as goal

pub returns-then-not-is_sorted : goal.returns-then-not-is_sorted
returns-then-not-is_sorted c = λ A h. seen_same A c.args.access.now c.is_sorted.result _ c.is_sorted.ensures c.if-not-is_sorted.true h

pub returns : goal.returns
returns c = λ A h.
    seen_more A c.args.access.now c.is_sorted.result c.args.objects.now.items _ c.is_sorted.ensures c.if-not-is_sorted.false h
    (c.in_ok-add_object.ensures ∙ ap (λ (o : ℕ). cond (has o c.args.objects.now.items) c.args.objects.now.items (c.args.objects.now.items ++ o ∷ [])) c.object.ensures)
