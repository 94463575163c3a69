use Rattle.std.proofs.Common.{◌≡◌, length}
use Rattle.monotone_fn.specs.Value.{value}
use Rattle.ca_core.specs.Open.{AreOpen}
use Rattle.ca_core.specs.Leading.{IsFirstTied}
use Rattle.ca_core.proofs.Highest.{heights}
use Rattle.ca_core.proofs.open_highs.OpenHighs.choose.Given as goal

abbrev pub invariant-loop-top : goal.invariant-loop-top
invariant-loop-top l = record {
  kept : AreOpen (value l.expr) l.transcript.lists l.transcript.accesses l.self.highs l.self.ties.heaps.items;
  room : length l.self.highs ≡ length l.fn.self.highs;
  first : IsFirstTied (value l.expr) l.transcript.lists l.transcript.accesses l.transcript.lists l.self.ties.heaps.items l.first;
}

abbrev pub decreases-loop-top : goal.decreases-loop-top
decreases-loop-top l = heights l.self.highs
