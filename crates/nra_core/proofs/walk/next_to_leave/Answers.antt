use Rattle.std.proofs.Common.{arith}
use Rattle.monotone_fn.specs.Value.{value}
use Rattle.nra_core.proofs.Walked.{open_more, not_tied, not_within}
use Rattle.nra_core.proofs.walk.next_to_leave.Goals as goal
use Rattle.nra_core.proofs.walk.next_to_leave.Goals.{else-entry-bound-via-then-entry-bound+else-high-bound, else-entry-bound-via-else-entry-bound}

pub loop-slot-init : goal.loop-slot-init
loop-slot-init c = record {
  after = omega arith;
  open_before = λ slot after below _. (let h : ⊥ = omega arith in h);
}

pub returns-then-high-bound-clause-found : goal.returns-then-high-bound-clause-found
returns-then-high-bound-clause-found c = record {
  after = c.loop-slot.invariant.after;
  leaves = record {
    entry = c.get-entry.result;
    object = c.object_at.result;
    there = c.get-entry.ensures;
    place = c.object_at.ensures;
    tied = c.if-entry-bound.true;
    within = (let e = c.high.ensures in let t = c.if-high-bound.true in omega arith);
  };
  open_before = c.loop-slot.invariant.open_before;
}

pub loop-slot-preserved : goal.loop-slot-preserved
loop-slot-preserved c =
    let e = value c.args.expr.now in
    let m = c.args.transcript.now.lists in
    let A = c.args.transcript.now.accesses in
    let entries = c.args.first.now.entries in
    let slot = c.loop-slot.slot in
    record {
      after = (let a = c.loop-slot.invariant.after in omega arith);
      open_before = open_more e m A c.args.bound entries c.args.from slot c.loop-slot.invariant.open_before (elim c.else-entry-bound.branch [
        | else-entry-bound-via-then-entry-bound+else-high-bound w ↦ not_within e m A c.args.bound entries slot w.object_at.result c.get-entry.result c.get-entry.ensures w.object_at.ensures
            (let h = w.high.ensures in let f = w.if-high-bound.false in omega arith)
        | else-entry-bound-via-else-entry-bound w ↦ not_tied e m A c.args.bound entries slot c.get-entry.result c.get-entry.ensures w.if-entry-bound.false
      ]);
    }

pub returns-clause-none : goal.returns-clause-none
returns-clause-none c = λ slot after below leaves. c.loop-slot.invariant.open_before slot after (let l = c.len-slot-end.ensures.len in omega arith) leaves
