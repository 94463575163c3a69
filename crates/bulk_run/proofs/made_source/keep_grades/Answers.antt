use Rattle.std.proofs.Common.{length, ap, ◌∙◌, arith}
use Rattle.std.specs.Slice.Iter.{iter_rest}
use Rattle.std.proofs.lemmas.Iterator.{YieldsList-from_slice}
use Rattle.std.proofs.lemmas.Iterator.Consumers.{YieldsList-turn, YieldsList-end}
use Rattle.std.proofs.lemmas.List.{length_push, length-set}
use Rattle.bulk_run.proofs.HeldLaws.{grades_kept, grades_whole}
use Rattle.bulk_run.proofs.made_source.keep_grades.Goals as goal

pub loop-row-init : goal.loop-row-init
loop-row-init c = record { grades = c.requires.none; room = c.requires.room }

pub loop-row-preserved : goal.loop-row-preserved
loop-row-preserved c =
    let list = c.args.list.now in
    let t = YieldsList-turn (YieldsList-from_slice list (ap iter_rest c.into_iter-row-iterator.ensures.into_iter_gives ∙ c.iter-row-items.ensures.rest)) c.loop-row.yielded _ c.loop-row.yielded_by _ _ c.in-Some.row c.in-Some.is c.next.ensures.steps in
    let h = c.loop-row.invariant in
    rw (length_push c.loop-row.yielded c.in-Some.row)
    (record {
      grades = grades_kept list c.loop-row.grades.items (length c.loop-row.yielded) c.in-Some.row.now t.0 t.1 c.requires.small h.room h.grades;
      room = length-set c.loop-row.grades.items c.in-Some.row.now.object _ ∙ h.room;
    })

pub returns : goal.returns
returns c =
    let list = c.args.list.now in
    let t = YieldsList-end (YieldsList-from_slice list (ap iter_rest c.into_iter-row-iterator.ensures.into_iter_gives ∙ c.iter-row-items.ensures.rest)) c.loop-row.yielded _ c.loop-row.yielded_by _ _ c.in-None.is c.next.ensures.steps in
    grades_whole list c.loop-row.grades.items (length c.loop-row.yielded) (omega (arith, t.1)) c.loop-row.invariant.grades
