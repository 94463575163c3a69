use Rattle.std.proofs.Common.{◌≡◌, ◌-◌, Some, vec_len}
use Rattle.std.specs.Io.KnownBytes.{Consumes}
use Rattle.wire.specs.declared.framing.Framing.TheVariants.{ToEnd}
use Rattle.wire.specs.Sparing.{HoldsBody, ReadsSparingly}
use Rattle.wire.specs.LinkTold.{told}
use Rattle.wire.proofs.response.take_rest.Given as goal

-- the body so far was taken, no read failed, and what was read was wanted
abbrev pub invariant-loop-body : goal.invariant-loop-body
invariant-loop-body g l =
    (g.R.Intake.faults l.link ≡ g.R.Intake.faults l.fn.link) × (g.R.Intake.aside l.link ≡ g.R.Intake.aside l.fn.link)
    × ReadsSparingly (HoldsBody (Some ToEnd)) l.fn.feed (g.R.Intake.pieces l.fn.link) (g.R.Intake.pieces l.link)
    × Consumes (told l.fn.feed (g.R.Intake.left l.fn.link)) (told l.feed (g.R.Intake.left l.link)) l.body.items

abbrev pub decreases-loop-body : goal.decreases-loop-body
decreases-loop-body g l = 16777217 - vec_len l.body
