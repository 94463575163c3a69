use Rattle.std.proofs.Common.{◌≡◌, ◌≢◌, ℕ, length}
use Rattle.monotone_fn.specs.Value.{value}
use Rattle.ca_core.specs.Ties.{ties_of}
use Rattle.ca_core.specs.Open.{AreOpen}
use Rattle.ca_core.proofs.AtPlaces.{ties_left}
use Rattle.ca_core.proofs.open_highs.OpenHighs.first_tied.Given as goal

abbrev pub invariant-loop-tied : goal.invariant-loop-tied
invariant-loop-tied l = record {
  kept : AreOpen (value l.expr) l.transcript.lists l.transcript.accesses l.self.highs l.self.ties.heaps.items;
  room : length l.self.highs ≡ length l.fn.self.highs;
  others : (other : ℕ) → other ≢ l.list → ties_of l.self.ties.heaps.items other ≡ ties_of l.fn.self.ties.heaps.items other;
}

abbrev pub decreases-loop-tied : goal.decreases-loop-tied
decreases-loop-tied l = ties_left l.self.ties.heaps.items l.list
