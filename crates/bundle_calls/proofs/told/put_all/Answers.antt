use Rattle.std.proofs.Common.{sym, ◌∙◌, ◌-◌, ap, cond, Some, ◌==◌, arith}
use Rattle.bundle_calls.proofs.Grading.{grades_more, row_there}
use Rattle.bundle_calls.proofs.told.put_all.Goals as goal

pub loop-place-preserved-in-Continue-branch-2 : goal.loop-place-preserved-in-Continue-branch-2
loop-place-preserved-in-Continue-branch-2 c = λ object.
    c.in_ok-put.ensures object
    ∙ ap (cond (c.in-Some.row.object == object) (Some c.in-Some.row.grade)) (c.loop-place.invariant object)
    ∙ sym (grades_more c.args.rows.now c.loop-place.place c.in-Some.row object (omega arith) c.in-Some.ensures)

pub loop-place-preserved : goal.loop-place-preserved
loop-place-preserved c = absurd (omega (arith, row_there c.args.rows.now (c.loop-place.place - 1) c.in_default.ensures, c.loop-place.auto.place, c.len-place.ensures))
