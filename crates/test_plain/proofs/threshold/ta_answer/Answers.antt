use Rattle.std.proofs.Common.{◌∙◌, map, ap}
use Rattle.monotone_fn.specs.Value.{value}
use Rattle.topk_theory.specs.Order.{first_k}
use Rattle.topk_theory.specs.Threshold.{scored, objects_to}
use Rattle.test_plain.proofs.Apart.{scored_apart}
use Rattle.test_plain.proofs.threshold.ta_answer.Goals as goal

pub first_k-requires : goal.first_k-requires
first_k-requires c =
    scored_apart (value c.args.expr.now) c.args.lists.now c.args.expr.now _ _ c.requires (c.in_ok-items.ensures ∙ ap (map (scored (value c.args.expr.now) c.args.lists.now)) (c.deref.ensures.value ∙ c.in_ok-objects.ensures))

pub returns : goal.returns
returns c =
    c.first_k.ensures ∙ ap (first_k c.args.k) (c.in_ok-items.ensures
    ∙ ap (map (scored (value c.args.expr.now) c.args.lists.now)) (c.deref.ensures.value ∙ c.in_ok-objects.ensures ∙ ap (objects_to c.args.lists.now) c.in_ok-depth.ensures))
