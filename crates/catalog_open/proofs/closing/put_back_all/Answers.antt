use Rattle.std.proofs.Common.{◌≡◌, ◌<◌, true, ◌∷◌, [], ap, length, subst, ◌∙◌, map, refl, sym, slice_index_or, arith}
use Rattle.std.proofs.lemmas.List.{get_or_read, length-map, map-append}
use Rattle.source_api.specs.Places.{put_back_at}
use Rattle.catalog_open.specs.Entries.{entry_at}
use Rattle.catalog_open.specs.Slots.{of_slot}
use Rattle.catalog_open.proofs.Back.{back_none, back_step, idle_rest, next_idle, rest_within}
use Rattle.catalog_open.proofs.Opens.{known_on}
use Rattle.catalog_open.proofs.closing.put_back_all.Goals as goal

pub loop-slot-init : goal.loop-slot-init
loop-slot-init g c = record {
  texts = λ place. refl;
  lists = λ place. refl;
  versions = λ place. refl;
  known = c.requires.known;
  idle = c.requires.idle;
  few = let many = c.requires.many in omega arith;
  back = back_none c.args.catalog.now c.args.sources.places.items (map (of_slot g.H.Item.Source.counts) c.args.sources.slots.items) (g.H.Shelf.at c.args.shelf.now);
}

pub place_of_entry-requires : goal.place_of_entry-requires
place_of_entry-requires g c =
    let inside = rest_within c.loop-slot.slots.items c.pop.new.self.items c.in-Some.slot c.args.sources.places.items c.in-Some.ensures.items c.loop-slot.invariant.few in
    let is : c.index.result.now ≡ slice_index_or c.args.sources.places.items c.len.result 0 =
    get_or_read c.args.sources.places.items _ _ (omega (arith, inside, c.len.ensures, c.pop.new.self.ok.0)) c.index.ensures 0 in
    subst (λ place. place < length c.args.catalog.now) (sym is) (c.loop-slot.invariant.known c.len.result 0 (omega (arith, inside, c.len.ensures, c.pop.new.self.ok.0))).within

pub into_source-requires-after_bounds : goal.into_source-requires-after_bounds
into_source-requires-after_bounds g c κs within = next_idle c.loop-slot.slots.items c.pop.new.self.items c.in-Some.slot c.loop-slot.invariant.idle c.in-Some.ensures.items

pub loop-slot-preserved : goal.loop-slot-preserved
loop-slot-preserved g c =
    let inv = c.loop-slot.invariant in
    let place = slice_index_or c.args.sources.places.items c.len.result 0 in
    let inside = rest_within c.loop-slot.slots.items c.pop.new.self.items c.in-Some.slot c.args.sources.places.items c.in-Some.ensures.items inv.few in
    let is : c.index.result.now ≡ slice_index_or c.args.sources.places.items c.len.result 0 =
    get_or_read c.args.sources.places.items _ _ (omega (arith, inside, c.len.ensures, c.pop.new.self.ok.0)) c.index.ensures 0 in
    let at = ap (λ entry. (entry_at c.args.catalog.now entry).place) (sym is) ∙ sym c.place_of_entry.ensures in
    let known = inv.known c.len.result 0 (omega (arith, inside, c.len.ensures, c.pop.new.self.ok.0)) in
    record {
      texts = λ other. c.put_back.ensures.texts other ∙ inv.texts other;
      lists = λ other. c.put_back.ensures.lists other ∙ inv.lists other;
      versions = λ other. c.put_back.ensures.versions other ∙ inv.versions other;
      known = known_on c.args.catalog.now (g.H.Shelf.knows c.loop-slot.shelf) (g.H.Shelf.knows c.put_back.new.self) c.args.sources.places.items c.put_back.ensures.known inv.known;
      idle = idle_rest c.loop-slot.slots.items c.pop.new.self.items c.in-Some.slot inv.idle c.in-Some.ensures.items;
      few = omega (arith, inside);
      back = back_step c.args.catalog.now c.args.sources.places.items (map (of_slot g.H.Item.Source.counts) c.args.sources.slots.items) (map (of_slot g.H.Item.Source.counts) c.loop-slot.slots.items) (map (of_slot g.H.Item.Source.counts) c.pop.new.self.items) (of_slot g.H.Item.Source.counts c.in-Some.slot) place c.place_of_entry.result.now
          (g.H.Shelf.knows c.loop-slot.shelf c.place_of_entry.result.now) (g.H.Shelf.at c.args.shelf.now) (g.H.Shelf.at c.loop-slot.shelf) (g.H.Shelf.at c.put_back.new.self) inv.back
          (ap (map (of_slot g.H.Item.Source.counts)) c.in-Some.ensures.items ∙ map-append (of_slot g.H.Item.Source.counts) c.pop.new.self.items (c.in-Some.slot ∷ []))
          (length-map c.args.sources.slots.items (of_slot g.H.Item.Source.counts) ∙ c.requires.many)
          (ap (λ n. slice_index_or c.args.sources.places.items n 0) (omega (arith, length-map c.pop.new.self.items (of_slot g.H.Item.Source.counts), c.len.ensures, c.pop.new.self.ok.0)))
          at (subst (λ t. g.H.Shelf.knows c.loop-slot.shelf t ≡ true) at known.known) c.put_back.ensures.elsewhere
          (subst (λ source. g.H.Shelf.at c.put_back.new.self c.place_of_entry.result.now ≡ put_back_at (g.H.Shelf.knows c.loop-slot.shelf c.place_of_entry.result.now) (g.H.Item.Source.counts source) (g.H.Shelf.at c.loop-slot.shelf c.place_of_entry.result.now)) c.into_source.ensures c.put_back.ensures.counts);
    }
