use Rattle.std.proofs.Common.{◌-◌, ◌∙◌, not, filter, ap, rules}
use Rattle.std.proofs.lemmas.Fn.{filter_same}
use Rattle.topk_theory.specs.Threshold.{stands}
use Rattle.test_plain.proofs.blocks.new_objects.Goals as goal

pub returns : goal.returns
returns c =
    filter_same _ (λ object. not (stands c.args.lists.now (c.args.depth - 1) object)) _ (λ x b f' k. search rules) _ _ c.retain.ensures.filtered
    ∙ ap (filter (λ object. not (stands c.args.lists.now (c.args.depth - 1) object))) c.in_ok-objects.ensures
