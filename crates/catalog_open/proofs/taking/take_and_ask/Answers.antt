use Rattle.std.proofs.Common.{rules, ◌≡◌, subst}
use Rattle.catalog_open.specs.Takings.{AreAsked, seen, shelf_seen}
use Rattle.catalog_open.proofs.Taken.{taken_asked}
use Rattle.catalog_open.proofs.taking.take_and_ask.Goals as goal

pub returns-then-all_answered-clause-taken : goal.returns-then-all_answered-clause-taken
returns-then-all_answered-clause-taken g c =
    let view = seen g.H.Item.Source.list g.H.Item.Source.states g.H.Item.Source.at_hand g.H.Item.Source.counts g.H.Item.Source.calls in
    let lent : c.as_mut_slice.result.now ≡ c.take_each.new.entries.items = search rules in
    taken_asked view c.args.catalog.now c.args.marks.now (shelf_seen g.H.Shelf.texts g.H.Shelf.lists g.H.Shelf.versions g.H.Shelf.at g.H.Shelf.knows c.args.shelf.now) (shelf_seen g.H.Shelf.texts g.H.Shelf.lists g.H.Shelf.versions g.H.Shelf.at g.H.Shelf.knows c.take_each.new.shelf)
    c.take_each.new.entries.items c.ask_all.new.entries c.take_each.new.entries.len c.take_each.new.entries.ok.0
    (subst (λ xs. AreAsked view xs c.ask_all.new.entries) lent c.ask_all.ensures) c.take_each.ensures.taken

pub returns-else-all_answered-clause-taken : goal.returns-else-all_answered-clause-taken
returns-else-all_answered-clause-taken g c =
    let view = seen g.H.Item.Source.list g.H.Item.Source.states g.H.Item.Source.at_hand g.H.Item.Source.counts g.H.Item.Source.calls in
    let lent : c.as_mut_slice.result.now ≡ c.take_each.new.entries.items = search rules in
    taken_asked view c.args.catalog.now c.args.marks.now (shelf_seen g.H.Shelf.texts g.H.Shelf.lists g.H.Shelf.versions g.H.Shelf.at g.H.Shelf.knows c.args.shelf.now) (shelf_seen g.H.Shelf.texts g.H.Shelf.lists g.H.Shelf.versions g.H.Shelf.at g.H.Shelf.knows c.take_each.new.shelf)
    c.take_each.new.entries.items c.ask_all.new.entries c.take_each.new.entries.len c.take_each.new.entries.ok.0
    (subst (λ xs. AreAsked view xs c.ask_all.new.entries) lent c.ask_all.ensures) c.take_each.ensures.taken
