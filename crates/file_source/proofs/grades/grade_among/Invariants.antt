use Rattle.std.proofs.Common.{◌≡◌, take}
use Rattle.source_api.specs.Told.{first_grade}
use Rattle.file_source.specs.ListFile.{rows_among}
use Rattle.file_source.proofs.grades.grade_among.Given as goal

-- the grade is that of the records so far
abbrev pub invariant-loop-record : goal.invariant-loop-record
invariant-loop-record l = l.kept ≡ first_grade (rows_among (take l.record-index l.records)) l.object
