use Rattle.std.proofs.Common.{sym, subst}
use Rattle.catalog_open.specs.Takings.{TakesOne, seen, shelf_seen}
use Rattle.catalog_open.proofs.Taken.{took_none, took_nothing, took_one}
use Rattle.catalog_open.proofs.taking.take_wanted.Goals as goal

pub returns-then-not-wanted : goal.returns-then-not-wanted
returns-then-not-wanted g c =
    took_nothing (seen g.H.Item.Source.list g.H.Item.Source.states g.H.Item.Source.at_hand g.H.Item.Source.counts g.H.Item.Source.calls) c.args.wanted c.args.place.now
    (shelf_seen g.H.Shelf.texts g.H.Shelf.lists g.H.Shelf.versions g.H.Shelf.at g.H.Shelf.knows c.args.shelf.now) c.if-not-wanted.true

pub returns-in-Ok : goal.returns-in-Ok
returns-in-Ok g c =
    let view = seen g.H.Item.Source.list g.H.Item.Source.states g.H.Item.Source.at_hand g.H.Item.Source.counts g.H.Item.Source.calls in
    let before = shelf_seen g.H.Shelf.texts g.H.Shelf.lists g.H.Shelf.versions g.H.Shelf.at g.H.Shelf.knows c.args.shelf.now in
    let now = shelf_seen g.H.Shelf.texts g.H.Shelf.lists g.H.Shelf.versions g.H.Shelf.at g.H.Shelf.knows c.take.new.self in
    took_one view c.args.wanted c.args.place.now before now c.in-Ok.source c.if-not-wanted.false
    (record { texts = c.take.ensures.texts; lists = c.take.ensures.lists; versions = c.take.ensures.versions; known = c.take.ensures.known })
    c.take.ensures.elsewhere c.in-Ok.ensures.taken
    (record { fresh = c.in-Ok.ensures.fresh; uncalled = c.in-Ok.ensures.uncalled; tells = c.in-Ok.ensures.list; stated = c.in-Ok.ensures.version })
    c.in-Ok.ensures.knows

pub returns-in-Err : goal.returns-in-Err
returns-in-Err g c =
    let view = seen g.H.Item.Source.list g.H.Item.Source.states g.H.Item.Source.at_hand g.H.Item.Source.counts g.H.Item.Source.calls in
    let before = shelf_seen g.H.Shelf.texts g.H.Shelf.lists g.H.Shelf.versions g.H.Shelf.at g.H.Shelf.knows c.args.shelf.now in
    let now = shelf_seen g.H.Shelf.texts g.H.Shelf.lists g.H.Shelf.versions g.H.Shelf.at g.H.Shelf.knows c.take.new.self in
    subst (TakesOne view c.args.wanted c.args.place.now before now) (sym c.not_taken.ensures)
    (took_none view c.in-Err.why c.args.wanted c.args.place.now before now c.if-not-wanted.false
    (record { texts = c.take.ensures.texts; lists = c.take.ensures.lists; versions = c.take.ensures.versions; known = c.take.ensures.known })
    c.take.ensures.elsewhere c.take.ensures.counts c.in-Err.ensures.untaken c.in-Err.ensures.cause)
