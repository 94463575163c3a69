use Rattle.std.proofs.Common.{length, map, Some, ap, sym, ◌∙◌, arith}
use Rattle.std.specs.Slice.Iter.{iter_rest}
use Rattle.std.proofs.lemmas.Iterator.Consumers.{YieldsList-turn, YieldsList-end}
use Rattle.std.proofs.lemmas.List.{length_push, take_all}
use Rattle.std.proofs.lemmas.Option.{slice_get-get_or}
use Rattle.query_text.specs.Bytes.{bytes_of}
use Rattle.query_text.proofs.NamesPassed.{names_given}
use Rattle.catalog_open.specs.Views.{entry_named}
use Rattle.catalog_open.proofs.Marking.{places_next, unknown_among}
use Rattle.catalog_open.proofs.wanted.places_of.Goals as goal

pub returns-in_default : goal.returns-in_default
returns-in_default c =
    let names = c.args.names.now in
    let place = length c.loop-name.yielded in
    let t = YieldsList-turn (names_given names (ap (λ i. bytes_of (iter_rest i)) c.into_iter-name-iterator.ensures.into_iter_gives ∙ c.iter-name-items.ensures.rest)) c.loop-name.yielded _ c.loop-name.yielded_by _ _ c.in-Some.name c.in-Some.is c.next.ensures.steps in
    unknown_among c.args.catalog.now names place c.in-Some.name.now.items
    (slice_get-get_or names place c.in-Some.name.now.items t.0 ∙ ap Some (sym t.1))
    (ap (entry_named c.args.catalog.now) (sym c.deref.ensures.value) ∙ sym c.find.ensures ∙ c.in_default.is)

pub loop-name-preserved : goal.loop-name-preserved
loop-name-preserved c =
    let names = c.args.names.now in
    let place = length c.loop-name.yielded in
    let t = YieldsList-turn (names_given names (ap (λ i. bytes_of (iter_rest i)) c.into_iter-name-iterator.ensures.into_iter_gives ∙ c.iter-name-items.ensures.rest)) c.loop-name.yielded _ c.loop-name.yielded_by _ _ c.in-Some.name c.in-Some.is c.next.ensures.steps in
    rw (length_push c.loop-name.yielded c.in-Some.name)
    (places_next c.args.catalog.now names place c.in-Some.name.now.items c.in-Some-find.place c.loop-name.places.items c.push.new.self.items
    (slice_get-get_or names place c.in-Some.name.now.items t.0 ∙ ap Some (sym t.1))
    (ap (entry_named c.args.catalog.now) (sym c.deref.ensures.value) ∙ sym c.find.ensures ∙ c.in-Some-find.is) c.loop-name.invariant c.in-Ok.ensures.items)

pub returns : goal.returns
returns c =
    let names = c.args.names.now in
    let t = YieldsList-end (names_given names (ap (λ i. bytes_of (iter_rest i)) c.into_iter-name-iterator.ensures.into_iter_gives ∙ c.iter-name-items.ensures.rest)) c.loop-name.yielded _ c.loop-name.yielded_by _ _ c.in-None.is c.next.ensures.steps in
    ap (map (entry_named c.args.catalog.now)) (sym (take_all (length c.loop-name.yielded) names (omega (arith, t.1)))) ∙ c.loop-name.invariant
