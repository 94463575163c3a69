use Rattle.std.proofs.Common.{◌∙◌, map, sym, ap, subst, refl}
use Rattle.monotone_fn.specs.Value.{value}
use Rattle.topk_theory.specs.Order.{AreDistinct, first_k}
use Rattle.topk_theory.specs.Transcript.{seen_objects}
use Rattle.topk_theory.specs.Threshold.{scored}
use Rattle.topk_theory.proofs.Agreement.{seen_distinct}
use Rattle.test_plain.proofs.Apart.{made_apart}
use Rattle.test_plain.proofs.fagin.fa_answer.Goals as goal

pub first_k-requires : goal.first_k-requires
first_k-requires c =
    subst AreDistinct (sym (c.in_ok-items.ensures ∙ ap (map (scored (value c.args.expr.now) c.args.lists.now)) (c.deref-2.ensures.value ∙ c.in_ok-seen.ensures)))
    (made_apart (scored (value c.args.expr.now) c.args.lists.now) (seen_objects c.deref.result.now) (λ o. refl) (seen_distinct c.deref.result.now))

pub returns : goal.returns
returns c =
    c.first_k.ensures ∙ ap (first_k c.args.k) (c.in_ok-items.ensures
    ∙ ap (map (scored (value c.args.expr.now) c.args.lists.now)) (c.deref-2.ensures.value ∙ c.in_ok-seen.ensures ∙ ap seen_objects (c.deref.ensures.value ∙ c.in_ok-accesses.ensures)))
