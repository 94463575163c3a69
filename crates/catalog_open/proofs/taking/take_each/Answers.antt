use Rattle.std.proofs.Common.{rules, tests, ◌≡◌, ◌<◌, ◌∷◌, [], Ok, false, length, length-append, sym, ap, subst, ◌∙◌, arith}
use Rattle.std.proofs.lemmas.List.{get_or_default}
use Rattle.catalog_open.specs.Entries.{entry_at, is_marked}
use Rattle.catalog_open.specs.Takings.{TakesOne, seen, shelf_seen}
use Rattle.catalog_open.proofs.Once.{few_each, few_more, few_none, once_all, once_more, once_none}
use Rattle.catalog_open.proofs.Taken.{taken_more, taken_none, taken_short, took_asks}
use Rattle.catalog_open.proofs.taking.take_each.Goals as goal

pub loop-place-init : goal.loop-place-init
loop-place-init g c = record {
  stands = sym (ap length c.requires.none);
  room = c.requires.room;
  taken = taken_none (seen g.H.Item.Source.list g.H.Item.Source.states g.H.Item.Source.at_hand g.H.Item.Source.counts g.H.Item.Source.calls) c.args.catalog.now c.args.marks.now
      (shelf_seen g.H.Shelf.texts g.H.Shelf.lists g.H.Shelf.versions g.H.Shelf.at g.H.Shelf.knows c.args.shelf.now) c.args.entries.now.items c.requires.none;
  once = once_none c.args.catalog.now (g.H.Shelf.at c.args.shelf.now);
}

pub loop-place-preserved : goal.loop-place-preserved
loop-place-preserved g c =
    let view = seen g.H.Item.Source.list g.H.Item.Source.states g.H.Item.Source.at_hand g.H.Item.Source.counts g.H.Item.Source.calls in
    let mid = shelf_seen g.H.Shelf.texts g.H.Shelf.lists g.H.Shelf.versions g.H.Shelf.at g.H.Shelf.knows c.loop-place.shelf in
    let now = shelf_seen g.H.Shelf.texts g.H.Shelf.lists g.H.Shelf.versions g.H.Shelf.at g.H.Shelf.knows c.take_wanted.new.shelf in
    let inv = c.loop-place.invariant in
    let place = c.loop-place.place in
    let within : c.loop-place.place < length c.args.marks.now = (let marks = c.requires.marks in omega arith) in
    let one = subst (λ text. TakesOne view (is_marked c.args.marks.now place) text mid now (Ok c.in-Ok.entry)) c.place_of_entry.ensures
    (subst (λ mark. TakesOne view mark c.place_of_entry.result.now mid now (Ok c.in-Ok.entry)) (sym (get_or_default c.args.marks.now place false _ within))
    (subst (TakesOne view _ c.place_of_entry.result.now mid now) c.in-Ok.is c.take_wanted.ensures)) in
    let long = length-append c.loop-place.entries.items (c.in-Ok.entry ∷ []) in
    let put = ap length c.push_reserved.ensures.items in
    let stands = inv.stands in
    record {
      stands = omega (arith, long, put, stands);
      room = search rules;
      taken = taken_more view c.args.catalog.now c.args.marks.now (shelf_seen g.H.Shelf.texts g.H.Shelf.lists g.H.Shelf.versions g.H.Shelf.at g.H.Shelf.knows c.args.shelf.now) mid now
          c.loop-place.entries.items c.push_reserved.new.self.items c.in-Ok.entry place stands (let marks = c.requires.marks in omega (arith, within, marks)) c.requires.marks
          c.push_reserved.ensures.items inv.taken one;
      once = once_more c.args.catalog.now c.args.marks.now place (g.H.Shelf.at c.args.shelf.now) (g.H.Shelf.at c.loop-place.shelf) (g.H.Shelf.at c.take_wanted.new.shelf) c.requires.marks within inv.once
          (took_asks view c.in-Ok.entry (is_marked c.args.marks.now place) (entry_at c.args.catalog.now place).place mid now one.took);
    }

pub returns-in-Err : goal.returns-in-Err
returns-in-Err g c =
    let view = seen g.H.Item.Source.list g.H.Item.Source.states g.H.Item.Source.at_hand g.H.Item.Source.counts g.H.Item.Source.calls in
    let mid = shelf_seen g.H.Shelf.texts g.H.Shelf.lists g.H.Shelf.versions g.H.Shelf.at g.H.Shelf.knows c.loop-place.shelf in
    let now = shelf_seen g.H.Shelf.texts g.H.Shelf.lists g.H.Shelf.versions g.H.Shelf.at g.H.Shelf.knows c.take_wanted.new.shelf in
    let one = subst (TakesOne view _ c.place_of_entry.result.now mid now) c.in-Err.is c.take_wanted.ensures in
    record {
      taken = taken_short view c.args.catalog.now c.args.marks.now (shelf_seen g.H.Shelf.texts g.H.Shelf.lists g.H.Shelf.versions g.H.Shelf.at g.H.Shelf.knows c.args.shelf.now) mid now
          c.loop-place.entries.items _ c.place_of_entry.result.now _ c.loop-place.invariant.taken one;
      all = tt;
      once = tt;
      few = few_more c.args.catalog.now c.args.marks.now c.loop-place.place (g.H.Shelf.at c.args.shelf.now) (g.H.Shelf.at c.loop-place.shelf) (g.H.Shelf.at c.take_wanted.new.shelf) c.requires.marks
          (let marks = c.requires.marks in omega arith) c.loop-place.invariant.once (λ other. few_none _ _ _ (one.took other));
    }

pub returns : goal.returns
returns g c =
    let marks = c.requires.marks in
    let once = once_all c.args.catalog.now c.args.marks.now c.loop-place.place (g.H.Shelf.at c.args.shelf.now) (g.H.Shelf.at c.loop-place.shelf) (omega arith) c.loop-place.invariant.once in
    let all : c.loop-place.place ≡ length c.args.catalog.now = search (rules, tests) in
    record {
      taken = c.loop-place.invariant.taken;
      all = sym c.loop-place.invariant.stands ∙ all;
      once = once;
      few = few_each c.args.catalog.now c.args.marks.now (g.H.Shelf.at c.args.shelf.now) (g.H.Shelf.at c.loop-place.shelf) once;
    }
