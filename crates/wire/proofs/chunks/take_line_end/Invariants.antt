use Rattle.std.proofs.Common.{◌≡◌, ◌-◌, length}
use Rattle.wire.specs.Sparing.{HoldsBytes, ReadsSparingly, GrewBy}
use Rattle.wire.specs.LinkTold.{SameTold}
use Rattle.wire.proofs.chunks.take_line_end.Given as goal

-- nothing was taken yet, no read failed, and what was read was wanted
abbrev pub invariant-loop-feed : goal.invariant-loop-feed
invariant-loop-feed g l =
    SameTold l.fn.feed (g.R.Intake.left l.fn.link) l.feed (g.R.Intake.left l.link)
    × (g.R.Intake.faults l.link ≡ g.R.Intake.faults l.fn.link) × (g.R.Intake.aside l.link ≡ g.R.Intake.aside l.fn.link)
    × ReadsSparingly (HoldsBytes 2) l.fn.feed (g.R.Intake.pieces l.fn.link) (g.R.Intake.pieces l.link)
    × GrewBy l.fn.feed l.feed (g.R.Intake.pieces l.fn.link) (g.R.Intake.pieces l.link)

abbrev pub decreases-loop-feed : goal.decreases-loop-feed
decreases-loop-feed g l = 2 - length l.feed
