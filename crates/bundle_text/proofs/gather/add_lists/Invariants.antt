use Rattle.std.proofs.Common.{take}
use Rattle.bundle_text.specs.Gathering.{HasTaken}
use Rattle.bundle_text.specs.Tracking.{front_of}
use Rattle.bundle_text.specs.Gathering.{lines_given}
use Rattle.bundle_text.proofs.gather.add_lists.Given as goal

-- the lines of the lists so far were taken in
abbrev pub invariant-loop-place : goal.invariant-loop-place
invariant-loop-place l = HasTaken (lines_given (take l.place l.lists)) (front_of l.fn.reader) l.fn.number l.reader l.next
