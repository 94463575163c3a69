use Rattle.std.proofs.Common.{◌≡◌, ◌-◌, ◌≤◌, vec_len}
use Rattle.wire.specs.Sparing.{HoldsChunks, ReadsSparingly, OfRead}
use Rattle.wire.specs.LinkTold.{told}
use Rattle.wire.proofs.StepLaws.{Took}
use Rattle.wire.proofs.chunks.take_chunks.Given as goal

-- some chunks were taken to the body, no read failed, and what was read was wanted
abbrev pub invariant-loop : goal.invariant-loop
invariant-loop g l =
    (g.R.Intake.faults l.link ≡ g.R.Intake.faults l.fn.link) × (g.R.Intake.aside l.link ≡ g.R.Intake.aside l.fn.link)
    × ReadsSparingly HoldsChunks l.fn.feed (g.R.Intake.pieces l.fn.link) (g.R.Intake.pieces l.link)
    × OfRead (λ all rest. Took all rest l.body.items) l.fn.feed l.feed (g.R.Intake.pieces l.fn.link) (g.R.Intake.pieces l.link)
    × (vec_len l.body ≤ 16777216)
    × Took (told l.fn.feed (g.R.Intake.left l.fn.link)) (told l.feed (g.R.Intake.left l.link)) l.body.items

abbrev pub decreases-loop : goal.decreases-loop
decreases-loop g l = 16777217 - vec_len l.body
