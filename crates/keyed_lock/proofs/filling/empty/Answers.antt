use Rattle.keyed_lock.proofs.Places.{popped_none}
use Rattle.keyed_lock.proofs.filling.empty.Goals as goal

pub unreachable-requires : goal.unreachable-requires
unreachable-requires g c = popped_none c.requires.full.0 c.loop-slot.values.items _ c.loop-slot.slots.items c.pop.new.self.items c.in-Some.slot
    c.loop-slot.invariant.emptied c.requires.full.1 c.in-Some.ensures.items c.in-None.is
