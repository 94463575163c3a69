use Rattle.std.proofs.Common.{◌≡◌, subst, []}
use Rattle.containers.specs.Slots.{IsLeast}
use Rattle.containers.specs.Slots.{Slots}
use Rattle.containers.proofs.SlotChanges.{least_found, none_found}
use Rattle.containers.proofs.slots.RankedSlots.least.Goals as goal

pub returns-in-Some : goal.returns-in-Some
returns-in-Some c =
    let i = c.self.inside in
    let g = c.in-Some.ensures.greatest in
    subst (λ (s : Slots). IsLeast s.entries c.in-Some.least.key) c.self.view_is
    (least_found i.most i.entries.cap i.entries.items i.ranks i.slots.items c.in-Some.least.key c.in-Some.least.rank c.self.invariant g.there g.none_above)

pub returns-in-None : goal.returns-in-None
returns-in-None c =
    let i = c.self.inside in
    subst (λ (s : Slots). s.entries ≡ []) c.self.view_is (none_found i.most i.entries.cap i.entries.items i.ranks i.slots.items c.self.invariant c.in-None.ensures.none)
