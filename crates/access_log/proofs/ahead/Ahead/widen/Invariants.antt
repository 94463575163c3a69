use Rattle.std.proofs.Common.{ℕ, ◌<◌, ◌≤◌, length}
use Rattle.access_log.specs.RecordsKept.{AreWider, heap_at}
use Rattle.access_log.proofs.ahead.Ahead.widen.Given as goal

abbrev pub invariant-loop-list : goal.invariant-loop-list
invariant-loop-list l = record {
  wider : AreWider l.fn.self.heaps.items l.self.heaps.items;
  room : (k : ℕ) → k < l.list → l.room ≤ length (heap_at l.self.heaps.items k);
}
