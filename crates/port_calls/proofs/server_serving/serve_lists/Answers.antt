use Rattle.std.proofs.Common.{◌≡◌, ◌∙◌, ap, inl, length, map, refl}
use Rattle.query_server.specs.Entries.{Openings}
use Rattle.command_line.specs.Shelves.{Shelf}
use Rattle.command_line.proofs.Ending.{shelf_at}
use Rattle.port_calls.specs.Opening.{IsOneOf, entry_of}
use Rattle.port_calls.specs.Ports.{ports_of}
use Rattle.port_calls.proofs.ListLaws.{are_at_hand, are_entries, are_homes, borrows_all, borrows_from, borrows_none, lists_end}
use Rattle.port_calls.proofs.server_serving.serve_lists.Goals as goal

pub make-lists-requires : goal.make-lists-requires
make-lists-requires g c =
    are_entries c.args.catalog c.in-Ok.sources.openings.items c.in-Ok-entries_of.entries.items
    (c.in-Ok-entries_of.ensures ∙ ap (map entry_of) c.deref.ensures.value) c.in-Ok.ensures.ready.all

pub serve_at-served-requires-clause-homes : goal.serve_at-served-requires-clause-homes
serve_at-served-requires-clause-homes g c κs within =
    let o = c.in-Ok.ensures.opened in
    are_homes (g.H.Shelf.lists c.args.shelf.now) (g.H.Shelf.versions c.args.shelf.now) c.args.catalog (IsOneOf c.args.catalog) (g.H.Shelf.at c.args.shelf.now)
    (g.H.Shelf.at c.open_all.new.shelf) c.in-Ok.sources.openings.items _ (length c.in-Ok.sources.slots.items) c.make-lists.result.entries
    (ap (λ (l : Openings). l.entries) c.make-lists.ensures ∙ (c.in-Ok-entries_of.ensures ∙ ap (map entry_of) c.deref.ensures.value))
    c.in-Ok.ensures.many o

pub serve_at-served-requires-clause-at_hand : goal.serve_at-served-requires-clause-at_hand
serve_at-served-requires-clause-at_hand g c κs within =
    are_at_hand (g.H.Shelf.lists c.args.shelf.now) (g.H.Shelf.versions c.args.shelf.now) c.args.catalog (IsOneOf c.args.catalog) (g.H.Shelf.at c.args.shelf.now)
    (g.H.Shelf.at c.open_all.new.shelf) c.in-Ok.sources.openings.items g.H.Item.Source.list g.H.Item.Source.at_hand c.in-Ok.sources.slots.items _ _ c.make-lists.result.entries
    (ap (λ (l : Openings). l.entries) c.make-lists.ensures ∙ (c.in-Ok-entries_of.ensures ∙ ap (map entry_of) c.deref.ensures.value)) c.in-Ok.ensures.opened

pub returns-in_default : goal.returns-in_default
returns-in_default g c =
    let before : Shelf = shelf_at (g.H.Shelf.texts c.args.shelf.now) (g.H.Shelf.lists c.args.shelf.now) (g.H.Shelf.versions c.args.shelf.now) (g.H.Shelf.at c.args.shelf.now) in
    let after : Shelf = shelf_at (g.H.Shelf.texts c.open_all.new.shelf) (g.H.Shelf.lists c.open_all.new.shelf) (g.H.Shelf.versions c.open_all.new.shelf) (g.H.Shelf.at c.open_all.new.shelf) in
    let o = c.open_all.ensures in
    (borrows_none c.args.catalog before after o.texts o.lists o.versions c.in_default.ensures.closed o.few, inl refl)

pub returns-in-Ok-entries_of : goal.returns-in-Ok-entries_of
returns-in-Ok-entries_of g c =
    let before : Shelf = shelf_at (g.H.Shelf.texts c.args.shelf.now) (g.H.Shelf.lists c.args.shelf.now) (g.H.Shelf.versions c.args.shelf.now) (g.H.Shelf.at c.args.shelf.now) in
    let mid : Shelf = shelf_at (g.H.Shelf.texts c.open_all.new.shelf) (g.H.Shelf.lists c.open_all.new.shelf) (g.H.Shelf.versions c.open_all.new.shelf) (g.H.Shelf.at c.open_all.new.shelf) in
    let after : Shelf = shelf_at (g.H.Shelf.texts c.put_back_all.new.shelf) (g.H.Shelf.lists c.put_back_all.new.shelf) (g.H.Shelf.versions c.put_back_all.new.shelf) (g.H.Shelf.at c.put_back_all.new.shelf) in
    let o = c.open_all.ensures in
    let i = c.in-Ok.ensures in
    let b = c.put_back_all.ensures in
    let same : c.catalog-in-Ok-entries_of.result.now ≡ c.args.catalog =
    c.catalog-in-Ok-entries_of.ensures ∙ c.serve_at-served.ensures.catalog ∙ ap (λ (l : Openings). l.catalog) c.make-lists.ensures in
    let became = c.in-Ok-entries_of.ensures ∙ ap (map entry_of) c.deref.ensures.value in
    lists_end c.args.options.now.listening c.args.catalog before after (ports_of g.P.Port.links g.P.Port.closed g.P.Port.faults g.P.Port.calls (c.args.port.now, c.serve_at-served.new.port)) c.serve_at-served.result
    (borrows_all c.args.catalog before mid after _
    (borrows_from g.H.Item.Source.counts c.args.catalog c.catalog-in-Ok-entries_of.result.now before mid after c.in-Ok.sources.openings.items _ c.in-Ok.sources.places.items _ same refl
    o.texts o.lists o.versions b.texts b.lists b.versions i.opened o.few b.moves b.others
    (c.serve_at-served.ensures.many ∙ i.many))
    i.once b.moves)
    (record {
      then_counted = mid.at;
      openings = c.in-Ok.sources.openings.items;
      sources = _;
      opened = i.opened;
      entries = c.in-Ok-entries_of.entries.items;
      many = (are_entries c.args.catalog c.in-Ok.sources.openings.items c.in-Ok-entries_of.entries.items became i.ready.all).many;
      became = became;
      used = _;
      back = b.moves;
    })
    c.serve_at-served.ensures.serves c.serve_at-served.ensures.closed

pub returns-in-Err : goal.returns-in-Err
returns-in-Err g c =
    let before : Shelf = shelf_at (g.H.Shelf.texts c.args.shelf.now) (g.H.Shelf.lists c.args.shelf.now) (g.H.Shelf.versions c.args.shelf.now) (g.H.Shelf.at c.args.shelf.now) in
    let mid : Shelf = shelf_at (g.H.Shelf.texts c.open_all.new.shelf) (g.H.Shelf.lists c.open_all.new.shelf) (g.H.Shelf.versions c.open_all.new.shelf) (g.H.Shelf.at c.open_all.new.shelf) in
    let after : Shelf = shelf_at (g.H.Shelf.texts c.put_back_all-in-Err.new.shelf) (g.H.Shelf.lists c.put_back_all-in-Err.new.shelf) (g.H.Shelf.versions c.put_back_all-in-Err.new.shelf) (g.H.Shelf.at c.put_back_all-in-Err.new.shelf) in
    let o = c.open_all.ensures in
    let i = c.in-Ok.ensures in
    let b = c.put_back_all-in-Err.ensures in (
      borrows_from g.H.Item.Source.counts c.args.catalog c.args.catalog before mid after c.in-Ok.sources.openings.items _ c.in-Ok.sources.places.items _ refl refl
          o.texts o.lists o.versions b.texts b.lists b.versions i.opened o.few b.moves b.others i.many,
      inl refl,
    )
