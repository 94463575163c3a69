use Rattle.std.proofs.Common.{length, reverse}
use Rattle.catalog_open.specs.Takings.{seen, shelf_seen}
use Rattle.catalog_open.proofs.Settling.{Settling}
use Rattle.catalog_open.proofs.opening.open_wanted.Given as goal

-- the entries so far are settled; the others are left, the next one last
abbrev pub invariant-loop-entry : goal.invariant-loop-entry
invariant-loop-entry g l =
    Settling (seen g.H.Item.Source.list g.H.Item.Source.states g.H.Item.Source.at_hand g.H.Item.Source.counts g.H.Item.Source.calls) l.catalog l.marks l.short
    (shelf_seen g.H.Shelf.texts g.H.Shelf.lists g.H.Shelf.versions g.H.Shelf.at g.H.Shelf.knows l.fn.shelf)
    (shelf_seen g.H.Shelf.texts g.H.Shelf.lists g.H.Shelf.versions g.H.Shelf.at g.H.Shelf.knows l.shelf) (reverse l.entries.items) l.opened

abbrev pub decreases-loop-entry : goal.decreases-loop-entry
decreases-loop-entry g l = length l.entries.items
