use Rattle.std.proofs.Common.{Some, ◌∙◌, sym, ap, arith}
use Rattle.test_plain.proofs.Scanning.{known_grade_none, known_grade_at}
use Rattle.test_plain.proofs.bounds.known_grade.Goals as goal

pub returns-then-is_of : goal.returns-then-is_of
returns-then-is_of c =
    ap Some c.grade.ensures
    ∙ sym (known_grade_at c.args.accesses.now c.loop-access.access-index _ c.args.list c.args.object c.loop-access-test.true c.loop-access.invariant (sym c.is_of.ensures ∙ c.if-is_of.true))

pub returns : goal.returns
returns c =
    sym (known_grade_none c.args.accesses.now c.args.list c.args.object (λ k d l. c.loop-access.invariant k d (omega (arith, c.loop-access-test.false))))
