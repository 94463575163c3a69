use Rattle.std.proofs.Common.{◌∙◌, filter, ap, rules}
use Rattle.std.proofs.lemmas.Fn.{filter_same}
use Rattle.topk_theory.specs.Threshold.{stands}
use Rattle.test_plain.proofs.threshold.objects_to.Goals as goal

pub returns : goal.returns
returns c =
    filter_same _ (stands c.args.lists.now c.args.depth) _ (λ x b f' k. search rules) _ _ c.retain.ensures.filtered
    ∙ ap (filter (stands c.args.lists.now c.args.depth)) c.in_ok-objects.ensures
