use Rattle.std.proofs.Common.{refl}
use Rattle.test_plain.proofs.Making.{sorted_more, sorted_all}
use Rattle.test_plain.proofs.blocks.add_sorted_block.Goals as goal

pub loop-list-init : goal.loop-list-init
loop-list-init c = refl

pub loop-list-preserved : goal.loop-list-preserved
loop-list-preserved c =
    sorted_more c.args.lists.now c.loop-list.accesses.items c.push.new.self.items _ c.loop-list.list c.args.depth c.index-lists-list.result _ c.row_at-row.result c.loop-list-test.true
    c.index-lists-list.is c.row_at-row.ensures c.in_ok-push.ensures.items c.loop-list.invariant

pub returns : goal.returns
returns c = sorted_all c.args.lists.now c.loop-list.accesses.items _ c.loop-list.list c.args.depth c.loop-list-test.false c.loop-list.invariant
