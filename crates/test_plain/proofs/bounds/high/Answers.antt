use Rattle.std.proofs.Common.{◌∙◌, ap}
use Rattle.monotone_fn.specs.Value.{value}
use Rattle.topk_theory.specs.Bounds.{high}
use Rattle.test_plain.proofs.Bounding.{known_capped, bottoms_capped, high_answer}
use Rattle.test_plain.proofs.bounds.high.Goals as goal

pub eval_high-requires-clause-capped : goal.eval_high-requires-clause-capped
eval_high-requires-clause-capped c = known_capped c.args.accesses.now _ c.args.object _ c.requires c.known_grades-known.ensures

pub eval_high-requires-clause-bottoms_capped : goal.eval_high-requires-clause-bottoms_capped
eval_high-requires-clause-bottoms_capped c = bottoms_capped c.args.accesses.now _ _ c.requires c.bottoms-bottoms.ensures

pub returns : goal.returns
returns c =
    high_answer c.args.expr.now _ c.args.accesses.now c.args.object _ _ _ c.known_grades-known.ensures c.bottoms-bottoms.ensures c.eval_high.ensures.value
    ∙ ap (λ m. high (value c.args.expr.now) m c.args.accesses.now c.args.object) c.lists-lists.ensures.lists
