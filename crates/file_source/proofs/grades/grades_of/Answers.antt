use Rattle.std.proofs.lemmas.Option.{slice_get-get_or}
use Rattle.file_source.proofs.RecordLaws.{grade_next}
use Rattle.file_source.proofs.grades.grades_of.Goals as goal

pub loop-record-preserved : goal.loop-record-preserved
loop-record-preserved c = λ object.
    grade_next c.args.records.now c.loop-record.record-index _ object _ _ (c.loop-record.invariant object) (c.in_ok-keep_record.ensures object)
    (slice_get-get_or c.args.records.now c.loop-record.record-index _ c.loop-record-test.true)
