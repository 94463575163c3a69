use Rattle.std.proofs.Common.{◌≤◌, length, map, All}
use Rattle.source_api.specs.Places.{SameAtEach}
use Rattle.catalog_open.specs.Openings.{IsKnownAt}
use Rattle.catalog_open.specs.Slots.{IsIdle, of_slot}
use Rattle.catalog_open.proofs.Back.{BackSoFar}
use Rattle.catalog_open.proofs.closing.put_back_all.Given as goal

-- some of the sources are put back, the others are left
abbrev pub invariant-loop-slot : goal.invariant-loop-slot
invariant-loop-slot g l = record {
  texts : SameAtEach (g.H.Shelf.texts l.fn.shelf) (g.H.Shelf.texts l.shelf);
  lists : SameAtEach (g.H.Shelf.lists l.fn.shelf) (g.H.Shelf.lists l.shelf);
  versions : SameAtEach (g.H.Shelf.versions l.fn.shelf) (g.H.Shelf.versions l.shelf);
  known : All (IsKnownAt l.catalog (g.H.Shelf.knows l.shelf)) l.fn.sources.places.items;
  idle : All IsIdle l.slots.items;
  few : length l.slots.items ≤ length l.fn.sources.places.items;
  back : BackSoFar l.catalog l.fn.sources.places.items (map (of_slot g.H.Item.Source.counts) l.fn.sources.slots.items) (map (of_slot g.H.Item.Source.counts) l.slots.items) (g.H.Shelf.at l.fn.shelf)
      (g.H.Shelf.at l.shelf);
}

abbrev pub decreases-loop-slot : goal.decreases-loop-slot
decreases-loop-slot g l = length l.slots.items
