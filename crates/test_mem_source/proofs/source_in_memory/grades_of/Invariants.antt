use Rattle.std.proofs.Common.{◌≡◌, ℕ, nat_eq, take}
use Rattle.std.specs.HashMap.{get}
use Rattle.source_api.specs.Told.{first_grade}
use Rattle.test_mem_source.proofs.source_in_memory.grades_of.Given as goal

-- the grades of the rows so far
abbrev pub invariant-loop-row : goal.invariant-loop-row
invariant-loop-row l = (object : ℕ) → get nat_eq l.grades object ≡ first_grade (take l.row-index l.rows) object
