use Rattle.std.proofs.Common.{◌∙◌, Some, ap, sym, length, arith}
use Rattle.std.specs.Slice.Iter.{iter_rest}
use Rattle.std.proofs.lemmas.Iterator.{YieldsList-from_slice}
use Rattle.std.proofs.lemmas.Iterator.Consumers.{YieldsList-turn, YieldsList-end}
use Rattle.std.proofs.lemmas.List.{length_push, take_all}
use Rattle.std.proofs.lemmas.Option.{slice_get-get_or}
use Rattle.ranked_list.specs.Table.{objects}
use Rattle.cert_judge.specs.Objects.{has}
use Rattle.cert_judge.proofs.Completing.{objects_more}
use Rattle.cert_judge.proofs.beating.objects_read.Goals as goal

pub loop-row-init : goal.loop-row-init
loop-row-init c = λ object. ap (has object) c.make-read.ensures

pub loop-row-preserved : goal.loop-row-preserved
loop-row-preserved c =
    let rows = c.args.rows.now in
    let place = length c.loop-row.yielded in
    let t = YieldsList-turn (YieldsList-from_slice rows (ap iter_rest c.into_iter-row-iterator.ensures.into_iter_gives ∙ c.iter-row-items.ensures.rest)) c.loop-row.yielded _ c.loop-row.yielded_by _ _ c.in-Some.row c.in-Some.is c.next.ensures.steps in
    rw (length_push c.loop-row.yielded c.in-Some.row)
    (objects_more rows place c.in-Some.row.now c.loop-row.read c.add.new.self
    (slice_get-get_or rows place c.in-Some.row.now t.0 ∙ ap Some (sym t.1)) c.loop-row.invariant c.in_ok-add.ensures.added)

pub returns : goal.returns
returns c =
    let rows = c.args.rows.now in
    let t = YieldsList-end (YieldsList-from_slice rows (ap iter_rest c.into_iter-row-iterator.ensures.into_iter_gives ∙ c.iter-row-items.ensures.rest)) c.loop-row.yielded _ c.loop-row.yielded_by _ _ c.in-None.is c.next.ensures.steps in
    λ object. c.loop-row.invariant object ∙ ap (λ rs. has object (objects rs)) (take_all (length c.loop-row.yielded) rows (omega (arith, t.1)))
