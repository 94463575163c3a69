use Rattle.std.proofs.Common.{length, ap, ◌∙◌, arith}
use Rattle.std.specs.Slice.Iter.{iter_rest}
use Rattle.std.proofs.lemmas.Iterator.{YieldsList-from_slice}
use Rattle.std.proofs.lemmas.Iterator.Consumers.{YieldsList-turn, YieldsList-end}
use Rattle.std.proofs.lemmas.List.{length_push}
use Rattle.bulk_run.proofs.Summing.{low_more, low_fits, low_whole}
use Rattle.bulk_run.proofs.sums.low_of.Goals as goal

pub loop-item-preserved : goal.loop-item-preserved
loop-item-preserved c =
    let items = c.args.items.now in
    let t = YieldsList-turn (YieldsList-from_slice items (ap iter_rest c.into_iter-item-iterator.ensures.into_iter_gives ∙ c.iter-item-items.ensures.rest)) c.loop-item.yielded _ c.loop-item.yielded_by _ _ c.in-Some.item c.in-Some.is c.next.ensures.steps in
    rw (length_push c.loop-item.yielded c.in-Some.item)
    (low_more items c.loop-item.sum (length c.loop-item.yielded) c.in-Some.item.now t.0 t.1 c.loop-item.invariant)

pub overflow_add-sum : goal.overflow_add-sum
overflow_add-sum c =
    let items = c.args.items.now in
    let t = YieldsList-turn (YieldsList-from_slice items (ap iter_rest c.into_iter-item-iterator.ensures.into_iter_gives ∙ c.iter-item-items.ensures.rest)) c.loop-item.yielded _ c.loop-item.yielded_by _ _ c.in-Some.item c.in-Some.is c.next.ensures.steps in
    let fits = low_fits items c.loop-item.sum (length c.loop-item.yielded) c.in-Some.item.now t.0 t.1 c.loop-item.invariant in
    omega (arith, fits, c.requires)

pub returns : goal.returns
returns c =
    let items = c.args.items.now in
    let t = YieldsList-end (YieldsList-from_slice items (ap iter_rest c.into_iter-item-iterator.ensures.into_iter_gives ∙ c.iter-item-items.ensures.rest)) c.loop-item.yielded _ c.loop-item.yielded_by _ _ c.in-None.is c.next.ensures.steps in
    low_whole items c.loop-item.sum (length c.loop-item.yielded) (omega (arith, t.1)) c.loop-item.invariant
