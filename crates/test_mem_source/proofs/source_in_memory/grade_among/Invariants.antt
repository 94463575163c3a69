use Rattle.std.proofs.Common.{◌≡◌, drop}
use Rattle.source_api.specs.Told.{first_grade}
use Rattle.test_mem_source.proofs.source_in_memory.grade_among.Given as goal

-- no row so far is the object's
abbrev pub invariant-loop-row : goal.invariant-loop-row
invariant-loop-row l = first_grade l.rows l.object ≡ first_grade (drop l.row-index l.rows) l.object
