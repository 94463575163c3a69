use Rattle.std.proofs.Common.{◌≡◌, ◌∙◌, ap, arith}
use Rattle.monotone_fn.specs.Value.{value}
use Rattle.topk_theory.specs.Combined.{ca_run_to}
use Rattle.test_plain.proofs.Capped.{run_capped, blocks_more}
use Rattle.test_plain.proofs.combined.ca_run_to.Goals as goal

pub add_combined_block-requires-clause-capped : goal.add_combined_block-requires-clause-capped
add_combined_block-requires-clause-capped c =
    run_capped (value c.args.expr.now) c.args.k c.args.phase c.args.lists.now c.args.expr.now c.loop-above.above _ c.requires.posed c.loop-above.invariant

pub loop-above-init : goal.loop-above-init
loop-above-init c = c.new-accesses.ensures.items

pub loop-above-preserved : goal.loop-above-preserved
loop-above-preserved c =
    blocks_more (value c.args.expr.now) c.args.k c.args.phase c.args.lists.now c.loop-above.accesses.items c.add_combined_block.new.accesses.items c.loop-above.above
    c.in_ok-add_combined_block.ensures c.loop-above.invariant

pub returns : goal.returns
returns c =
    let last : c.loop-above.above ≡ c.args.depth = omega (arith, c.loop-above.auto.above-end, c.loop-above-test.false) in
    c.loop-above.invariant ∙ ap (ca_run_to (value c.args.expr.now) c.args.k c.args.phase c.args.lists.now) last
