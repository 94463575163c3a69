use Rattle.std.proofs.Common.{◌∙◌, ap}
use Rattle.monotone_fn.specs.Value.{value}
use Rattle.topk_theory.specs.Bounds.{low}
use Rattle.test_plain.proofs.Bounding.{known_capped, low_answer}
use Rattle.test_plain.proofs.bounds.low.Goals as goal

pub eval_low-requires-clause-capped : goal.eval_low-requires-clause-capped
eval_low-requires-clause-capped c = known_capped c.args.accesses.now _ c.args.object _ c.requires c.known_grades-known.ensures

pub returns : goal.returns
returns c =
    low_answer c.args.expr.now _ c.args.accesses.now c.args.object _ _ c.known_grades-known.ensures c.eval_low.ensures.value
    ∙ ap (λ m. low (value c.args.expr.now) m c.args.accesses.now c.args.object) c.lists-lists.ensures.lists
