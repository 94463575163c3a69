use Rattle.std.proofs.Common.{◌≡◌, ◌+◌, length, take}
use Rattle.bulk_run.specs.Held.{AreGradesOf}
use Rattle.bulk_run.proofs.made_source.keep_grades.Given as goal

-- the grade of each object of the rows so far is kept
abbrev pub invariant-loop-row : goal.invariant-loop-row
invariant-loop-row l = record {
  grades : AreGradesOf (take (length l.yielded) l.list) l.grades.items;
  room : length l.grades.items ≡ length l.list + 1;
}
