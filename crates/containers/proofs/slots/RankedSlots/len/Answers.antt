use Rattle.std.proofs.Common.{subst}
use Rattle.containers.specs.Slots.{AreDistinctKeys}
use Rattle.containers.specs.Slots.{Slots}
use Rattle.containers.proofs.SlotChanges.{distinct_keys}
use Rattle.containers.proofs.slots.RankedSlots.len.Goals as goal

pub returns-clause-distinct : goal.returns-clause-distinct
returns-clause-distinct c =
    let i = c.self.inside in
    subst (λ (s : Slots). AreDistinctKeys s.entries) c.self.view_is (distinct_keys i.most i.entries.cap i.entries.items i.ranks i.slots.items c.self.invariant)
