use Rattle.bulk_run.proofs.HeldLaws.{slots_more, slots_whole, slot_made, small_at}
use Rattle.bulk_run.proofs.slots.put_slots.Goals as goal

pub loop-place-init : goal.loop-place-init
loop-place-init c = c.requires.none

pub make-requires : goal.make-requires
make-requires c = small_at c.args.table.now c.loop-place.place c.index-table-place.result c.requires.small c.loop-place-test.true c.index-table-place.is

pub loop-place-preserved : goal.loop-place-preserved
loop-place-preserved c =
    let list = c.index-table-place.result in
    slots_more c.args.table.now c.loop-place.slots.items c.push.new.self.items c.loop-place.place list c.make-in-loop-place.result c.loop-place-test.true
    c.index-table-place.is c.loop-place.invariant (slot_made list c.in_ok-source.source c.make-in-loop-place.result c.in_ok-source.ensures c.make-in-loop-place.ensures) c.in_ok-push.ensures.items

pub returns : goal.returns
returns c = slots_whole c.args.table.now c.loop-place.slots.items c.loop-place.place c.loop-place-test.false c.loop-place.invariant
