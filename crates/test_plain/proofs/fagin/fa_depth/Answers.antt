use Rattle.std.proofs.Common.{◌∙◌, sym}
use Rattle.algorithm_theory.specs.Fagin.{fa_stop}
use Rattle.test_plain.proofs.Least.{least_more}
use Rattle.test_plain.proofs.fagin.fa_depth.Goals as goal

pub loop-depth-preserved : goal.loop-depth-preserved
loop-depth-preserved c =
    c.loop-depth.invariant
    ∙ least_more (fa_stop c.args.k c.args.lists.now) c.count_of-count.result c.loop-depth.depth c.loop-depth-test.true (sym c.in_ok-fa_stop.ensures ∙ c.if-branch.false)
