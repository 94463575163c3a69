use Rattle.std.proofs.Common.{sym, ◌∙◌, arith}
use Rattle.machine_base.proofs.AskFrom.{from_asks, from_skips, from_over}
use Rattle.machine_base.proofs.asking.ask_from.Goals as goal

pub returns-in-Some : goal.returns-in-Some
returns-in-Some g c =
    sym (c.loop-at.invariant
    ∙ from_asks c.args.transcript.now.lists c.args.transcript.now.accesses (g.L.ObjectList.objects c.args.objects) c.loop-at.at c.in-Some.list c.object-object.result c.object-object.ensures (sym c.next_unknown.ensures ∙ c.in-Some.is))

pub loop-at-preserved : goal.loop-at-preserved
loop-at-preserved g c =
    c.loop-at.invariant
    ∙ from_skips c.args.transcript.now.lists c.args.transcript.now.accesses (g.L.ObjectList.objects c.args.objects) c.loop-at.at c.object-object.result c.object-object.ensures (sym c.next_unknown.ensures ∙ c.in_default.is)

pub returns : goal.returns
returns g c =
    sym (c.loop-at.invariant
    ∙ from_over c.args.transcript.now.lists c.args.transcript.now.accesses (g.L.ObjectList.objects c.args.objects) c.loop-at.at (omega (arith, c.loop-at-test.false, c.size-at-end.ensures)))
