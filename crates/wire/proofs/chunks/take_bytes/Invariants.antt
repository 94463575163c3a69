use Rattle.std.proofs.Common.{◌≡◌, ◌+◌, ◌-◌, ℕ, List, ◌++◌, length}
use Rattle.std.specs.Io.KnownBytes.{Consumes}
use Rattle.wire.specs.Sparing.{HoldsBytes, ReadsSparingly, OfRead, IsPulled}
use Rattle.wire.specs.LinkTold.{told}
use Rattle.wire.proofs.chunks.take_bytes.Given as goal

-- some of the bytes were taken, no read failed, and what was read was wanted
abbrev pub invariant-loop-left : goal.invariant-loop-left
invariant-loop-left g l =
    (g.R.Intake.faults l.link ≡ g.R.Intake.faults l.fn.link) × (g.R.Intake.aside l.link ≡ g.R.Intake.aside l.fn.link)
    × ReadsSparingly (HoldsBytes l.count) l.fn.feed (g.R.Intake.pieces l.fn.link) (g.R.Intake.pieces l.link)
    × OfRead (λ all rest. IsPulled all rest l.fn.body.items l.body.items (l.count - l.left)) l.fn.feed l.feed (g.R.Intake.pieces l.fn.link) (g.R.Intake.pieces l.link)
    × (piece : List ℕ) × Consumes (told l.fn.feed (g.R.Intake.left l.fn.link)) (told l.feed (g.R.Intake.left l.link)) piece
    × (l.body.items ≡ l.fn.body.items ++ piece) × (length piece + l.left ≡ l.count)

abbrev pub decreases-loop-left : goal.decreases-loop-left
decreases-loop-left g l = l.left
