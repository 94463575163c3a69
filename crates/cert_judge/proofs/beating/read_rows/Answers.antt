use Rattle.std.proofs.Common.{◌∙◌, Some, ap, sym, length, arith}
use Rattle.std.specs.Slice.Iter.{iter_rest}
use Rattle.std.proofs.lemmas.Iterator.{YieldsList-from_slice}
use Rattle.std.proofs.lemmas.Iterator.Consumers.{YieldsList-turn, YieldsList-end}
use Rattle.std.proofs.lemmas.List.{length_push, take_all}
use Rattle.std.proofs.lemmas.Option.{slice_get-get_or}
use Rattle.topk_theory.specs.Transcript.{sorted_rows}
use Rattle.cert_judge.proofs.Completing.{read_more, few_read}
use Rattle.cert_judge.proofs.beating.read_rows.Goals as goal

pub add_read-requires : goal.add_read-requires
add_read-requires c =
    let log = c.args.transcript.now in
    let few = few_read log.accesses log.lists log.count (length c.loop-access.yielded) c.args.list c.requires.agrees c.requires.list c.requires.limits.few_objects in
    omega (arith, few, ap length c.loop-access.invariant)

pub loop-access-preserved : goal.loop-access-preserved
loop-access-preserved c =
    let accesses = c.args.transcript.now.accesses in
    let place = length c.loop-access.yielded in
    let t = YieldsList-turn (YieldsList-from_slice accesses (ap iter_rest c.into_iter-access-iterator.ensures.into_iter_gives ∙ c.iter-access-items.ensures.rest)) c.loop-access.yielded _ c.loop-access.yielded_by _ _ c.in-Some.access c.in-Some.is c.next.ensures.steps in
    rw (length_push c.loop-access.yielded c.in-Some.access)
    (read_more accesses place c.args.list c.in-Some.access.now c.loop-access.rows c.add_read.new.rows
    (slice_get-get_or accesses place c.in-Some.access.now t.0 ∙ ap Some (sym t.1)) c.loop-access.invariant c.in_ok-add_read.ensures)

pub returns : goal.returns
returns c =
    let accesses = c.args.transcript.now.accesses in
    let t = YieldsList-end (YieldsList-from_slice accesses (ap iter_rest c.into_iter-access-iterator.ensures.into_iter_gives ∙ c.iter-access-items.ensures.rest)) c.loop-access.yielded _ c.loop-access.yielded_by _ _ c.in-None.is c.next.ensures.steps in
    c.loop-access.invariant ∙ ap (sorted_rows c.args.list) (take_all (length c.loop-access.yielded) accesses (omega (arith, t.1)))
