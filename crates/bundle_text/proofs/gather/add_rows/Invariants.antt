use Rattle.std.proofs.Common.{take}
use Rattle.bundle_text.specs.Gathering.{HasTaken}
use Rattle.bundle_text.specs.Tracking.{front_of}
use Rattle.bundle_text.proofs.GatherSteps.{row_lines}
use Rattle.bundle_text.proofs.gather.add_rows.Given as goal

-- the lines of the rows so far were taken in
abbrev pub invariant-loop-place : goal.invariant-loop-place
invariant-loop-place l = HasTaken (row_lines (take l.place l.rows)) (front_of l.fn.reader) l.fn.number l.reader l.next
