use Rattle.std.proofs.Common.{◌≤◌}
use Rattle.monotone_fn.specs.Value.{value}
use Rattle.nra_core.specs.LatePlaces.{AreOpenFrom}
use Rattle.nra_core.proofs.walk.next_to_leave.Given as goal

abbrev pub invariant-loop-slot : goal.invariant-loop-slot
invariant-loop-slot l = record {
  after : l.from ≤ l.slot;
  open_before : AreOpenFrom (value l.expr) l.transcript.lists l.transcript.accesses l.bound l.first.entries l.from l.slot;
}
