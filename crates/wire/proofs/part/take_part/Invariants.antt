use Rattle.std.proofs.Common.{◌≡◌, ◌-◌, ◌+◌, length}
use Rattle.wire.specs.Parts.{HasOne}
use Rattle.wire.specs.Sparing.{ReadsSparingly, GrewBy}
use Rattle.wire.specs.LinkTold.{SameTold}
use Rattle.wire.proofs.part.take_part.Given as goal

-- nothing was taken yet, no read failed, and what was read was wanted
abbrev pub invariant-loop-found : goal.invariant-loop-found
invariant-loop-found g l =
    SameTold l.fn.feed (g.R.Intake.left l.fn.link) l.feed (g.R.Intake.left l.link)
    × (g.R.Intake.faults l.link ≡ g.R.Intake.faults l.fn.link) × (g.R.Intake.aside l.link ≡ g.R.Intake.aside l.fn.link)
    × ReadsSparingly (HasOne g.P.MessagePart.Valid g.P.MessagePart.print) l.fn.feed (g.R.Intake.pieces l.fn.link) (g.R.Intake.pieces l.link)
    × GrewBy l.fn.feed l.feed (g.R.Intake.pieces l.fn.link) (g.R.Intake.pieces l.link)

abbrev pub decreases-loop-found : goal.decreases-loop-found
decreases-loop-found g l = g.P.MessagePart.LIMIT + 1 - length l.feed
