use Rattle.std.proofs.Common.{◌≡◌, ◌∙◌, Some, slice_get, length, ap, sym, subst, arith}
use Rattle.std.specs.Slice.Iter.{iter_rest}
use Rattle.std.proofs.lemmas.Iterator.{YieldsList-from_slice}
use Rattle.std.proofs.lemmas.Iterator.Consumers.{YieldsList-turn, YieldsList-end}
use Rattle.std.proofs.lemmas.List.{length_push}
use Rattle.std.proofs.lemmas.Option.{slice_get-get_or}
use Rattle.topk_theory.proofs.Consistent.{empty_agrees}
use Rattle.access_log.specs.Log.{IsConsistent}
use Rattle.cert_judge.proofs.Making.{pushed, pushed_all, refused}
use Rattle.cert_judge.proofs.transcript.push_all.Goals as goal

pub loop-access-init : goal.loop-access-init
loop-access-init c = record {
  made = c.requires;
  agrees = subst IsConsistent (sym c.requires) (empty_agrees c.args.transcript.now.lists c.args.transcript.now.count);
}

pub returns-in-Err : goal.returns-in-Err
returns-in-Err c =
    let accesses = c.args.accesses.now in
    let place = length c.loop-access.yielded in
    let t = YieldsList-turn (YieldsList-from_slice accesses (ap iter_rest c.into_iter-access-iterator.ensures.into_iter_gives ∙ c.iter-access-items.ensures.rest)) c.loop-access.yielded _ c.loop-access.yielded_by _ _ c.in-Some.access c.in-Some.is c.next.ensures.steps in
    let at : slice_get accesses place ≡ Some c.in-Some.access.now = slice_get-get_or accesses place c.in-Some.access.now t.0 ∙ ap Some (sym t.1) in
    refused c.args.transcript.now.lists c.args.transcript.now.count accesses place c.in-Some.access.now c.loop-access.transcript c.loop-access.transcript c.in-Err.fault
    c.loop-access.invariant.made c.loop-access.invariant.agrees at c.in-Err.ensures.cause

pub loop-access-preserved : goal.loop-access-preserved
loop-access-preserved c =
    let accesses = c.args.accesses.now in
    let place = length c.loop-access.yielded in
    let t = YieldsList-turn (YieldsList-from_slice accesses (ap iter_rest c.into_iter-access-iterator.ensures.into_iter_gives ∙ c.iter-access-items.ensures.rest)) c.loop-access.yielded _ c.loop-access.yielded_by _ _ c.in-Some.access c.in-Some.is c.next.ensures.steps in
    let at : slice_get accesses place ≡ Some c.in-Some.access.now = slice_get-get_or accesses place c.in-Some.access.now t.0 ∙ ap Some (sym t.1) in
    record {
      made = rw (length_push c.loop-access.yielded c.in-Some.access)
          (pushed c.args.transcript.now.lists c.args.transcript.now.count accesses place c.in-Some.access.now c.loop-access.transcript c.push.new.self c.loop-access.invariant.made at c.in_default.ensures.ok);
      agrees = c.in_default.ensures.agrees;
    }

pub returns : goal.returns
returns c =
    let accesses = c.args.accesses.now in
    let t = YieldsList-end (YieldsList-from_slice accesses (ap iter_rest c.into_iter-access-iterator.ensures.into_iter_gives ∙ c.iter-access-items.ensures.rest)) c.loop-access.yielded _ c.loop-access.yielded_by _ _ c.in-None.is c.next.ensures.steps in
    (pushed_all c.args.transcript.now.lists c.args.transcript.now.count accesses (length c.loop-access.yielded) c.loop-access.transcript c.loop-access.invariant.made (omega (arith, t.1)), c.loop-access.invariant.agrees)
