use Rattle.std.proofs.Common.{◌∙◌, length, Some, sym, ap, arith}
use Rattle.std.specs.Slice.Iter.{iter_rest}
use Rattle.std.proofs.lemmas.Iterator.{YieldsList-from_slice}
use Rattle.std.proofs.lemmas.Iterator.Consumers.{YieldsList-turn, YieldsList-end}
use Rattle.std.proofs.lemmas.List.{length_push, take_all}
use Rattle.std.proofs.lemmas.Option.{slice_get-get_or}
use Rattle.topk_theory.specs.Threshold.{item_objects}
use Rattle.cert_judge.proofs.Telling.{objects_more, objects_few}
use Rattle.cert_judge.proofs.judging.objects_of.Goals as goal

pub loop-item-preserved : goal.loop-item-preserved
loop-item-preserved c =
    let items = c.args.items.now in
    let place = length c.loop-item.yielded in
    let t = YieldsList-turn (YieldsList-from_slice items (ap iter_rest c.into_iter-item-iterator.ensures.into_iter_gives ∙ c.iter-item-items.ensures.rest)) c.loop-item.yielded _ c.loop-item.yielded_by _ _ c.in-Some.item c.in-Some.is c.next.ensures.steps in
    rw (length_push c.loop-item.yielded c.in-Some.item)
    (objects_more items place c.in-Some.item.now c.loop-item.objects.items c.push.new.self.items
    (slice_get-get_or items place c.in-Some.item.now t.0 ∙ ap Some (sym t.1)) c.loop-item.invariant c.in-Ok.ensures.items)

pub returns-clause-objects : goal.returns-clause-objects
returns-clause-objects c =
    let items = c.args.items.now in
    let t = YieldsList-end (YieldsList-from_slice items (ap iter_rest c.into_iter-item-iterator.ensures.into_iter_gives ∙ c.iter-item-items.ensures.rest)) c.loop-item.yielded _ c.loop-item.yielded_by _ _ c.in-None.is c.next.ensures.steps in
    c.loop-item.invariant ∙ ap item_objects (take_all (length c.loop-item.yielded) items (omega (arith, t.1)))

pub returns-clause-few : goal.returns-clause-few
returns-clause-few c =
    let items = c.args.items.now in
    let t = YieldsList-end (YieldsList-from_slice items (ap iter_rest c.into_iter-item-iterator.ensures.into_iter_gives ∙ c.iter-item-items.ensures.rest)) c.loop-item.yielded _ c.loop-item.yielded_by _ _ c.in-None.is c.next.ensures.steps in
    objects_few items c.loop-item.objects.items (4294967296) (c.loop-item.invariant ∙ ap item_objects (take_all (length c.loop-item.yielded) items (omega (arith, t.1))))
    (omega (arith, ap length c.iter-item-items.ensures.rest, c.iter-item-items.ensures.few))
