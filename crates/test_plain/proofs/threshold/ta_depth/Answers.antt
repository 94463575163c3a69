use Rattle.std.proofs.Common.{◌∙◌, sym}
use Rattle.monotone_fn.specs.Value.{value}
use Rattle.topk_theory.specs.Threshold.{ta_stop}
use Rattle.test_plain.proofs.Least.{least_more}
use Rattle.test_plain.proofs.threshold.ta_depth.Goals as goal

pub loop-depth-preserved : goal.loop-depth-preserved
loop-depth-preserved c =
    c.loop-depth.invariant
    ∙ least_more (ta_stop (value c.args.expr.now) c.args.k c.args.lists.now) c.count_of-count.result c.loop-depth.depth c.loop-depth-test.true (sym c.in_ok-ta_stop.ensures ∙ c.if-branch.false)
