use Rattle.std.proofs.Common.{refl}
use Rattle.test_plain.proofs.Making.{random_more, random_all}
use Rattle.test_plain.proofs.blocks.add_random_block.Goals as goal

pub loop-list-init : goal.loop-list-init
loop-list-init c = refl

pub loop-list-preserved : goal.loop-list-preserved
loop-list-preserved c =
    random_more c.args.lists.now c.loop-list.accesses.items c.add_missing.new.accesses.items _ c.loop-list.list c.args.depth c.args.object c.index-lists-list.result _ c.loop-list-test.true
    c.index-lists-list.is c.in_ok-add_missing.ensures c.loop-list.invariant

pub returns : goal.returns
returns c = random_all c.args.lists.now c.loop-list.accesses.items _ c.loop-list.list c.args.depth c.args.object c.loop-list-test.false c.loop-list.invariant
