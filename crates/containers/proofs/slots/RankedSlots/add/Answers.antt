use Rattle.std.proofs.Common.{◌<◌, sym, subst, arith, length, slice_set, Some}
use Rattle.containers.specs.Slots.{HasNoSlot}
use Rattle.containers.specs.Slots.{Slots}
use Rattle.containers.proofs.SlotChanges.{distinct_keys, added}
use Rattle.containers.proofs.slots.RankedSlots.add.Goals as goal

pub invariant_of-self : goal.invariant_of-self
invariant_of-self c =
    let i = c.self.inside in
    added i.most i.entries.cap c.push_reserved.new.self.cap i.entries.items c.push_reserved.new.self.items i.ranks c.put.new.self i.slots.items c.args.key c.args.rank c.len-slot.result c.self.invariant
    (subst (λ (s : Slots). c.args.key < s.room) (sym c.self.view_is) c.requires.within)
    (subst (λ (s : Slots). HasNoSlot s.entries c.args.key) (sym c.self.view_is) c.requires.absent)
    (subst (λ (s : Slots). length s.entries < s.most) (sym c.self.view_is) c.requires.free)
    (omega (arith, c.len-slot.ensures, i.entries.ok.0)) (let k = c.push_reserved.ensures.capacity in omega arith) c.push_reserved.ensures.items c.put.ensures

pub returns-clause-distinct : goal.returns-clause-distinct
returns-clause-distinct c =
    let i = c.self.inside in
    distinct_keys i.most c.push_reserved.new.self.cap c.push_reserved.new.self.items c.put.new.self (slice_set i.slots.items c.args.key (Some c.len-slot.result)) (invariant_of-self c)
