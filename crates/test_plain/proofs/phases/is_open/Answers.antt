use Rattle.std.proofs.Common.{◌∙◌, sym}
use Rattle.topk_theory.proofs.UnknownLists.{none_unknown_more}
use Rattle.test_plain.proofs.Asking.{some_open}
use Rattle.test_plain.proofs.phases.is_open.Goals as goal

pub returns-then-is_unknown : goal.returns-then-is_unknown
returns-then-is_unknown c =
    sym (some_open c.args.lists c.loop-list.list c.args.accesses.now c.args.object c.loop-list-test.true (sym c.is_unknown.ensures ∙ c.if-is_unknown.true))

pub loop-list-preserved : goal.loop-list-preserved
loop-list-preserved c = none_unknown_more c.loop-list.list c.args.accesses.now c.args.object (sym c.is_unknown.ensures ∙ c.if-is_unknown.false) c.loop-list.invariant
