use Rattle.std.proofs.Common.{◌≡◌, ◌-◌, length, drop}
use Rattle.source_state.specs.Asks.{first_above}
use Rattle.source_state.specs.ObjectKeeping.{standings}
use Rattle.source_state.proofs.spots.first_open.Given as goal

abbrev pub invariant-loop-place : goal.invariant-loop-place
invariant-loop-place l = first_above l.bottom (drop l.place (standings l.spots l.requests)) ≡ first_above l.bottom (standings l.spots l.requests)

abbrev pub decreases-loop-place : goal.decreases-loop-place
decreases-loop-place l = length l.requests - l.place
