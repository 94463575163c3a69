use Rattle.std.proofs.Common.{◌<◌, sym, subst, MatchOption}
use Rattle.containers.specs.Slots.{HasNoSlot, IsAt}
use Rattle.containers.specs.Slots.{Slots}
use Rattle.containers.proofs.SlotChanges.{slot_found, get_or_any}
use Rattle.containers.proofs.slots.RankedSlots.slot.Goals as goal

pub returns : goal.returns
returns c =
    let i = c.self.inside in
    subst (λ (s : Slots). MatchOption c.index.result.now (HasNoSlot s.entries c.args.key) (IsAt s.entries c.args.key)) c.self.view_is
    (slot_found i.most i.entries.cap i.entries.items i.ranks i.slots.items c.args.key c.index.result.now c.self.invariant (get_or_any i.slots.items c.args.key c.index.result.now (subst (λ (s : Slots). c.args.key < s.room) (sym c.self.view_is) c.requires) c.index.ensures))
