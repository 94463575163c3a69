use Rattle.std.proofs.Common.{◌≡◌, ℕ, take}
use Rattle.containers.specs.Values.{value_of}
use Rattle.source_api.specs.Told.{first_grade}
use Rattle.file_source.specs.ListFile.{rows_among}
use Rattle.file_source.proofs.grades.grades_of.Given as goal

-- the grades are those of the records so far
abbrev pub invariant-loop-record : goal.invariant-loop-record
invariant-loop-record l = (object : ℕ) → value_of l.grades object ≡ first_grade (rows_among (take l.record-index l.records)) object
