use Rattle.std.proofs.Common.{◌≤◌, ◌-◌, length}
use Rattle.std.specs.List.{position_or_len}
use Rattle.source_state.specs.Asks.{is_due}
use Rattle.source_state.specs.ObjectKeeping.{standings}
use Rattle.source_state.proofs.spots.next_due.Given as goal

abbrev pub invariant-loop-place : goal.invariant-loop-place
invariant-loop-place l = l.place ≤ position_or_len is_due (standings l.spots l.requests)

abbrev pub decreases-loop-place : goal.decreases-loop-place
decreases-loop-place l = length l.requests - l.place
