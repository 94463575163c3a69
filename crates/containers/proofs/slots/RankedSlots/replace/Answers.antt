use Rattle.std.proofs.Common.{◌≡◌, ◌<◌, sym, subst, arith, length, slice_get, slice_set, Some, None}
use Rattle.containers.specs.Slots.{HasNoSlot}
use Rattle.containers.specs.Slots.{Slots}
use Rattle.containers.proofs.SlotChanges.{distinct_keys, replaced, at_slot}
use Rattle.containers.proofs.slots.RankedSlots.replace.Goals as goal

pub index_mut-requires : goal.index_mut-requires
index_mut-requires c =
    let i = c.self.inside in
    let within = (c.self.invariant.slot c.args.slot c.index.result.now (at_slot i.entries.items c.args.slot c.index.result.now (subst (λ (s : Slots). c.args.slot < length s.entries) (sym c.self.view_is) c.requires.slot) c.index.ensures)).0 in
    omega (arith, within, i.slots.ok.0)

pub invariant_of-self : goal.invariant_of-self
invariant_of-self c =
    let i = c.self.inside in
    replaced i.most i.entries.cap i.entries.items i.ranks c.put.new.self i.slots.items c.args.slot c.index.result.now c.args.key c.args.rank c.self.invariant
    (subst (λ (s : Slots). c.args.slot < length s.entries) (sym c.self.view_is) c.requires.slot) c.index.ensures
    (subst (λ (s : Slots). c.args.key < s.room) (sym c.self.view_is) c.requires.within)
    (subst (λ (s : Slots). HasNoSlot s.entries c.args.key) (sym c.self.view_is) c.requires.absent) c.put.ensures

pub returns-clause-leaves : goal.returns-clause-leaves
returns-clause-leaves c =
    let i = c.self.inside in
    (c.index.result.now.rank, subst (λ (s : Slots). slice_get s.entries c.args.slot ≡ Some c.index.result.now) c.self.view_is (at_slot i.entries.items c.args.slot c.index.result.now (subst (λ (s : Slots). c.args.slot < length s.entries) (sym c.self.view_is) c.requires.slot) c.index.ensures))

pub returns-clause-distinct : goal.returns-clause-distinct
returns-clause-distinct c =
    let i = c.self.inside in
    distinct_keys i.most i.entries.cap (slice_set i.entries.items c.args.slot (record { key = c.args.key; rank = c.args.rank })) c.put.new.self (slice_set (slice_set i.slots.items c.index.result.now.key None) c.args.key (Some c.args.slot)) (invariant_of-self c)
