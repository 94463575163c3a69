use Rattle.std.proofs.Common.{sym, ◌∙◌, arith}
use Rattle.machine_base.proofs.FirstUnknown.{unknown_here, unknown_skips, unknown_over}
use Rattle.machine_base.proofs.asking.first_unknown.Goals as goal

pub returns-then-is_unknown : goal.returns-then-is_unknown
returns-then-is_unknown g c =
    sym (c.loop-at.invariant
    ∙ unknown_here c.args.transcript.now.accesses (g.L.ObjectList.objects c.args.objects) c.args.list c.loop-at.at c.object-object.result c.object-object.ensures
    (sym c.is_unknown.ensures ∙ c.if-is_unknown.true))

pub loop-at-preserved : goal.loop-at-preserved
loop-at-preserved g c =
    c.loop-at.invariant
    ∙ unknown_skips c.args.transcript.now.accesses (g.L.ObjectList.objects c.args.objects) c.args.list c.loop-at.at c.object-object.result c.object-object.ensures
    (sym c.is_unknown.ensures ∙ c.if-is_unknown.false)

pub returns : goal.returns
returns g c =
    sym (c.loop-at.invariant
    ∙ unknown_over c.args.transcript.now.accesses (g.L.ObjectList.objects c.args.objects) c.args.list c.loop-at.at (omega (arith, c.loop-at-test.false, c.size-at-end.ensures)))
