use Rattle.std.proofs.Common.{rules, ◌≡◌, [], ap, reverse, subst, sym, ◌∙◌}
use Rattle.std.proofs.lemmas.List.{reverse-reverse}
use Rattle.catalog_open.specs.Takings.{seen, shelf_seen}
use Rattle.catalog_open.proofs.Once.{unless_short}
use Rattle.catalog_open.proofs.Settling.{Settling, left_next, settled_closed, settled_open, settled_ready, settling_more, settling_none}
use Rattle.catalog_open.proofs.Taken.{few_became}
use Rattle.catalog_open.proofs.opening.open_wanted.Goals as goal

pub loop-entry-init : goal.loop-entry-init
loop-entry-init g c =
    let view = seen g.H.Item.Source.list g.H.Item.Source.states g.H.Item.Source.at_hand g.H.Item.Source.counts g.H.Item.Source.calls in
    let before = shelf_seen g.H.Shelf.texts g.H.Shelf.lists g.H.Shelf.versions g.H.Shelf.at g.H.Shelf.knows c.args.shelf.now in
    let now = shelf_seen g.H.Shelf.texts g.H.Shelf.lists g.H.Shelf.versions g.H.Shelf.at g.H.Shelf.knows c.take_and_ask.new.shelf in
    let catalog = c.args.catalog.now in
    let marks = c.args.marks.now in
    let short = c.is_err-short.result in
    let entries = c.take_and_ask.new.entries.items in
    let t = c.take_and_ask.ensures in
    subst (λ left. Settling view catalog marks short before now left c.in-Ok-with_room.opened) (sym (ap reverse c.reverse.ensures.items ∙ reverse-reverse entries))
    (settling_none view catalog marks short before now entries c.in-Ok-with_room.opened (search rules) c.in-Ok-with_room.ensures.bare c.requires t.taken
    (few_became view before now entries catalog marks t.taken.became)
    (λ calm. unless_short c.take_and_ask.result _ t.all (sym c.is_err-short.ensures.value ∙ calm))
    (λ calm. unless_short c.take_and_ask.result _ t.answered (sym c.is_err-short.ensures.value ∙ calm))
    (λ calm. unless_short c.take_and_ask.result _ t.once (sym c.is_err-short.ensures.value ∙ calm)) t.few)

pub loop-entry-preserved : goal.loop-entry-preserved
loop-entry-preserved g c =
    let view = seen g.H.Item.Source.list g.H.Item.Source.states g.H.Item.Source.at_hand g.H.Item.Source.counts g.H.Item.Source.calls in
    let before = shelf_seen g.H.Shelf.texts g.H.Shelf.lists g.H.Shelf.versions g.H.Shelf.at g.H.Shelf.knows c.args.shelf.now in
    let mid = shelf_seen g.H.Shelf.texts g.H.Shelf.lists g.H.Shelf.versions g.H.Shelf.at g.H.Shelf.knows c.loop-entry.shelf in
    let now = shelf_seen g.H.Shelf.texts g.H.Shelf.lists g.H.Shelf.versions g.H.Shelf.at g.H.Shelf.knows c.settle_next.new.shelf in
    let catalog = c.args.catalog.now in
    let marks = c.args.marks.now in
    let short = c.is_err-short.result in
    settling_more view catalog marks short before mid now c.in-Some.entry (reverse c.pop.new.self.items) c.loop-entry.opened c.settle_next.new.opened c.settle_next.ensures.room
    (subst (λ left. Settling view catalog marks short before mid left c.loop-entry.opened) (left_next c.loop-entry.entries.items c.pop.new.self.items c.in-Some.entry c.in-Some.ensures.items)
    c.loop-entry.invariant)
    c.settle_next.ensures.same c.settle_next.ensures.settles

pub returns-then-short-clause-closed : goal.returns-then-short-clause-closed
returns-then-short-clause-closed g c =
    let none : c.loop-entry.entries.items ≡ [] = search rules in
    settled_closed (seen g.H.Item.Source.list g.H.Item.Source.states g.H.Item.Source.at_hand g.H.Item.Source.counts g.H.Item.Source.calls) c.args.catalog.now c.args.marks.now
    c.is_err-short.result (shelf_seen g.H.Shelf.texts g.H.Shelf.lists g.H.Shelf.versions g.H.Shelf.at g.H.Shelf.knows c.args.shelf.now) (shelf_seen g.H.Shelf.texts g.H.Shelf.lists g.H.Shelf.versions g.H.Shelf.at g.H.Shelf.knows c.loop-entry.shelf) c.loop-entry.opened c.if-short.true
    (subst (λ left. Settling (seen g.H.Item.Source.list g.H.Item.Source.states g.H.Item.Source.at_hand g.H.Item.Source.counts g.H.Item.Source.calls) c.args.catalog.now c.args.marks.now c.is_err-short.result (shelf_seen g.H.Shelf.texts g.H.Shelf.lists g.H.Shelf.versions g.H.Shelf.at g.H.Shelf.knows c.args.shelf.now) (shelf_seen g.H.Shelf.texts g.H.Shelf.lists g.H.Shelf.versions g.H.Shelf.at g.H.Shelf.knows c.loop-entry.shelf) left c.loop-entry.opened)
    (ap reverse none) c.loop-entry.invariant)

pub returns-clause-once : goal.returns-clause-once
returns-clause-once g c = c.loop-entry.invariant.once c.if-short.false

pub returns-clause-ready : goal.returns-clause-ready
returns-clause-ready g c =
    let none : c.loop-entry.entries.items ≡ [] = search rules in
    settled_ready (seen g.H.Item.Source.list g.H.Item.Source.states g.H.Item.Source.at_hand g.H.Item.Source.counts g.H.Item.Source.calls) c.args.catalog.now c.args.marks.now
    c.is_err-short.result (shelf_seen g.H.Shelf.texts g.H.Shelf.lists g.H.Shelf.versions g.H.Shelf.at g.H.Shelf.knows c.args.shelf.now) (shelf_seen g.H.Shelf.texts g.H.Shelf.lists g.H.Shelf.versions g.H.Shelf.at g.H.Shelf.knows c.loop-entry.shelf) c.loop-entry.opened c.if-short.false
    (subst (λ left. Settling (seen g.H.Item.Source.list g.H.Item.Source.states g.H.Item.Source.at_hand g.H.Item.Source.counts g.H.Item.Source.calls) c.args.catalog.now c.args.marks.now c.is_err-short.result (shelf_seen g.H.Shelf.texts g.H.Shelf.lists g.H.Shelf.versions g.H.Shelf.at g.H.Shelf.knows c.args.shelf.now) (shelf_seen g.H.Shelf.texts g.H.Shelf.lists g.H.Shelf.versions g.H.Shelf.at g.H.Shelf.knows c.loop-entry.shelf) left c.loop-entry.opened)
    (ap reverse none) c.loop-entry.invariant)

pub returns-clause-opened : goal.returns-clause-opened
returns-clause-opened g c =
    let none : c.loop-entry.entries.items ≡ [] = search rules in
    settled_open (seen g.H.Item.Source.list g.H.Item.Source.states g.H.Item.Source.at_hand g.H.Item.Source.counts g.H.Item.Source.calls) c.args.catalog.now c.args.marks.now
    c.is_err-short.result (shelf_seen g.H.Shelf.texts g.H.Shelf.lists g.H.Shelf.versions g.H.Shelf.at g.H.Shelf.knows c.args.shelf.now) (shelf_seen g.H.Shelf.texts g.H.Shelf.lists g.H.Shelf.versions g.H.Shelf.at g.H.Shelf.knows c.loop-entry.shelf) c.loop-entry.opened c.if-short.false
    (subst (λ left. Settling (seen g.H.Item.Source.list g.H.Item.Source.states g.H.Item.Source.at_hand g.H.Item.Source.counts g.H.Item.Source.calls) c.args.catalog.now c.args.marks.now c.is_err-short.result (shelf_seen g.H.Shelf.texts g.H.Shelf.lists g.H.Shelf.versions g.H.Shelf.at g.H.Shelf.knows c.args.shelf.now) (shelf_seen g.H.Shelf.texts g.H.Shelf.lists g.H.Shelf.versions g.H.Shelf.at g.H.Shelf.knows c.loop-entry.shelf) left c.loop-entry.opened)
    (ap reverse none) c.loop-entry.invariant)
