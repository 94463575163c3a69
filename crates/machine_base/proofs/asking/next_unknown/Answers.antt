use Rattle.std.proofs.Common.{not, sym, ap, ◌∙◌, arith}
use Rattle.topk_theory.proofs.UnknownLists.{none_unknown_more}
use Rattle.machine_base.proofs.Unknown.{unknown_found, known_at, known_length, known_of, unknown_of}
use Rattle.machine_base.proofs.asking.next_unknown.Goals as goal

pub bounds-known-list : goal.bounds-known-list
bounds-known-list c =
    let long = known_length c.args.transcript.now.lists c.args.transcript.now.accesses c.args.object c.known-known.result.now c.known-known.ensures.known in
    omega (arith, long, c.loop-list-test.true, c.lists-list-end.ensures.lists)

pub returns-then-is_none : goal.returns-then-is_none
returns-then-is_none c =
    sym (unknown_found c.args.transcript.now.lists c.loop-list.list c.args.transcript.now.accesses c.args.object (omega (arith, c.loop-list-test.true, c.lists-list-end.ensures.lists)) c.loop-list.invariant
    (unknown_of _ _ (known_at c.args.transcript.now.lists c.loop-list.list c.args.transcript.now.accesses c.args.object c.known-known.result.now _ (omega (arith, c.loop-list-test.true, c.lists-list-end.ensures.lists)) c.known-known.ensures.known) (c.is_none.ensures ∙ ap not c.if-is_none.true)))

pub loop-list-preserved : goal.loop-list-preserved
loop-list-preserved c =
    none_unknown_more c.loop-list.list c.args.transcript.now.accesses c.args.object
    (known_of _ _ (known_at c.args.transcript.now.lists c.loop-list.list c.args.transcript.now.accesses c.args.object c.known-known.result.now _ (omega (arith, c.loop-list-test.true, c.lists-list-end.ensures.lists)) c.known-known.ensures.known) (c.is_none.ensures ∙ ap not c.if-is_none.false))
    c.loop-list.invariant
