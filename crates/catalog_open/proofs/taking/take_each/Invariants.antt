use Rattle.std.proofs.Common.{◌≡◌, ◌≤◌, length, take}
use Rattle.std.specs.Prelude.{vec_capacity}
use Rattle.catalog_open.specs.Openings.{AsksEachOnce}
use Rattle.catalog_open.specs.Takings.{AreTaken, seen, shelf_seen}
use Rattle.catalog_open.proofs.taking.take_each.Given as goal

-- the sources of the entries so far were taken, where they are wanted
abbrev pub invariant-loop-place : goal.invariant-loop-place
invariant-loop-place g l = record {
  stands : l.place ≡ length l.entries.items;
  room : length l.catalog ≤ vec_capacity l.entries;
  taken : AreTaken (seen g.H.Item.Source.list g.H.Item.Source.states g.H.Item.Source.at_hand g.H.Item.Source.counts g.H.Item.Source.calls) l.catalog l.marks
      (shelf_seen g.H.Shelf.texts g.H.Shelf.lists g.H.Shelf.versions g.H.Shelf.at g.H.Shelf.knows l.fn.shelf)
      (shelf_seen g.H.Shelf.texts g.H.Shelf.lists g.H.Shelf.versions g.H.Shelf.at g.H.Shelf.knows l.shelf) l.entries.items;
  once : AsksEachOnce l.catalog (take l.place l.marks) (g.H.Shelf.at l.fn.shelf) (g.H.Shelf.at l.shelf);
}
