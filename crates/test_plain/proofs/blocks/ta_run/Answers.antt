use Rattle.std.proofs.Common.{◌≡◌, ◌∙◌, ap, arith}
use Rattle.topk_theory.specs.Threshold.{ta_run_to}
use Rattle.test_plain.proofs.Making.{run_more}
use Rattle.test_plain.proofs.blocks.ta_run.Goals as goal

pub loop-depth-init : goal.loop-depth-init
loop-depth-init c = c.new-accesses.ensures.items

pub loop-depth-preserved : goal.loop-depth-preserved
loop-depth-preserved c =
    run_more c.args.lists.now c.loop-depth.accesses.items c.add_block.new.accesses.items c.loop-depth.depth c.in_ok-add_block.ensures c.loop-depth.invariant

pub returns : goal.returns
returns c =
    let last : c.loop-depth.depth ≡ c.in_ok-last.last = omega (arith, c.loop-depth.auto.depth-end, c.loop-depth-test.false) in
    c.loop-depth.invariant ∙ ap (ta_run_to c.args.lists.now) (last ∙ c.in_ok-last.ensures)
