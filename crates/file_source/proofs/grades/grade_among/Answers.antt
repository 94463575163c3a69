use Rattle.std.proofs.lemmas.Option.{slice_get-get_or}
use Rattle.file_source.proofs.RecordLaws.{grade_next}
use Rattle.file_source.proofs.grades.grade_among.Goals as goal

pub loop-record-preserved : goal.loop-record-preserved
loop-record-preserved c =
    grade_next c.args.records.now c.loop-record.record-index _ c.args.object _ _ c.loop-record.invariant c.kept_with-kept.ensures
    (slice_get-get_or c.args.records.now c.loop-record.record-index _ c.loop-record-test.true)
