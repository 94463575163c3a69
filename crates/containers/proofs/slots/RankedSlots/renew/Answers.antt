use Rattle.std.proofs.Common.{◌≡◌, ◌<◌, sym, ap, subst, length, slice_get, slice_set, Some}
use Rattle.containers.specs.Slots.{Slots}
use Rattle.containers.proofs.SlotChanges.{distinct_keys, renewed, at_slot}
use Rattle.containers.proofs.slots.RankedSlots.renew.Goals as goal

pub invariant_of-self : goal.invariant_of-self
invariant_of-self c =
    let i = c.self.inside in
    renewed i.most i.entries.cap i.entries.items i.ranks c.put.new.self i.slots.items c.args.slot c.index.result.now c.args.rank c.self.invariant
    (subst (λ (s : Slots). c.args.slot < length s.entries) (sym c.self.view_is) c.requires) c.index.ensures c.put.ensures

pub returns-clause-renewed : goal.returns-clause-renewed
returns-clause-renewed c =
    let i = c.self.inside in
    record {
      most = ap (λ (s : Slots). s.most) c.self.view_is;
      room = ap (λ (s : Slots). s.room) c.self.view_is;
      entry = c.index.result.now;
      there = subst (λ (s : Slots). slice_get s.entries c.args.slot ≡ Some c.index.result.now) c.self.view_is (at_slot i.entries.items c.args.slot c.index.result.now (subst (λ (s : Slots). c.args.slot < length s.entries) (sym c.self.view_is) c.requires) c.index.ensures);
      entries = ap (λ (s : Slots). slice_set s.entries c.args.slot (record { key = c.index.result.now.key; rank = c.args.rank })) c.self.view_is;
    }

pub returns-clause-distinct : goal.returns-clause-distinct
returns-clause-distinct c =
    let i = c.self.inside in
    distinct_keys i.most i.entries.cap (slice_set i.entries.items c.args.slot (record { key = c.index.result.now.key; rank = c.args.rank })) c.put.new.self i.slots.items (invariant_of-self c)
