use Rattle.std.proofs.Common.{◌≡◌, ◌∙◌, length, Some, slice_get, sym, ap, refl, arith}
use Rattle.std.proofs.lemmas.Iterator.{YieldsList-from_slice}
use Rattle.std.proofs.lemmas.Iterator.Consumers.{YieldsList-turn, YieldsList-end}
use Rattle.std.proofs.lemmas.List.{length_push}
use Rattle.std.proofs.lemmas.Option.{slice_get-get_or}
use Rattle.monotone_fn.specs.Value.{value}
use Rattle.cert_judge.proofs.Comparing.{same_more, differs_here, same_items}
use Rattle.cert_judge.proofs.figures.first_item.Goals as goal

pub loop-place-init : goal.loop-place-init
loop-place-init c = record { place = refl; same = refl }

pub returns-then-not-has_bounds : goal.returns-then-not-has_bounds
returns-then-not-has_bounds c =
    let log = c.args.transcript.now in
    let items = c.args.items.now in
    let t = YieldsList-turn (YieldsList-from_slice items c.iter-item-items.ensures.rest) c.loop-place.yielded _ c.loop-place.yielded_by _ _ c.in-Some.item c.in-Some.is c.next.ensures.steps in
    let at : slice_get items c.loop-place.place ≡ Some c.in-Some.item.now = rw c.loop-place.invariant.place (slice_get-get_or items (length c.loop-place.yielded) c.in-Some.item.now t.0 ∙ ap Some (sym t.1)) in
    differs_here (value c.args.expr.now) log.lists log.accesses items c.loop-place.place c.in-Some.item.now c.has_bounds.result at c.has_bounds.ensures c.if-not-has_bounds.true c.loop-place.invariant.same

pub loop-place-preserved : goal.loop-place-preserved
loop-place-preserved c =
    let log = c.args.transcript.now in
    let items = c.args.items.now in
    let t = YieldsList-turn (YieldsList-from_slice items c.iter-item-items.ensures.rest) c.loop-place.yielded _ c.loop-place.yielded_by _ _ c.in-Some.item c.in-Some.is c.next.ensures.steps in
    let at : slice_get items c.loop-place.place ≡ Some c.in-Some.item.now = rw c.loop-place.invariant.place (slice_get-get_or items (length c.loop-place.yielded) c.in-Some.item.now t.0 ∙ ap Some (sym t.1)) in
    record {
      place = omega (arith, c.loop-place.invariant.place, length_push c.loop-place.yielded c.in-Some.item);
      same = same_more (value c.args.expr.now) log.lists log.accesses items c.loop-place.place c.in-Some.item.now c.has_bounds.result at c.has_bounds.ensures c.if-not-has_bounds.false c.loop-place.invariant.same;
    }

pub returns : goal.returns
returns c =
    let log = c.args.transcript.now in
    let items = c.args.items.now in
    let t = YieldsList-end (YieldsList-from_slice items c.iter-item-items.ensures.rest) c.loop-place.yielded _ c.loop-place.yielded_by _ _ c.in-None.is c.next.ensures.steps in
    same_items (value c.args.expr.now) log.lists log.accesses items c.loop-place.place (omega (arith, t.1, c.loop-place.invariant.place)) c.loop-place.invariant.same
