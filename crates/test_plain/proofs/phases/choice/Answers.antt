use Rattle.std.proofs.Common.{◌∙◌, ap, map}
use Rattle.monotone_fn.specs.Shape.{list_count}
use Rattle.monotone_fn.specs.Value.{value}
use Rattle.topk_theory.specs.Combined.{by_high}
use Rattle.test_plain.proofs.Capped.{highs_apart}
use Rattle.test_plain.proofs.phases.choice.Goals as goal

pub first_k-first-requires : goal.first_k-first-requires
first_k-first-requires c =
    highs_apart (value c.args.expr.now) (list_count c.args.expr.now) c.args.accesses.now c.args.k c.in_ok-items.items.items
    (c.in_ok-items.ensures ∙ ap (map (by_high (value c.args.expr.now) (list_count c.args.expr.now) c.args.accesses.now)) (c.deref.ensures.value ∙ c.in_ok-open.ensures))
