use Rattle.std.proofs.Common.{◌≡◌, length}
use Rattle.monotone_fn.specs.Value.{value}
use Rattle.ca_core.specs.Open.{AreOpen}
use Rattle.ca_core.specs.Leading.{IsFirstTied}
use Rattle.ca_core.proofs.open_highs.OpenHighs.first_of_ties.Given as goal

abbrev pub invariant-loop-list : goal.invariant-loop-list
invariant-loop-list l = record {
  kept : AreOpen (value l.expr) l.transcript.lists l.transcript.accesses l.self.highs l.self.ties.heaps.items;
  room : length l.self.highs ≡ length l.fn.self.highs;
  first : IsFirstTied (value l.expr) l.transcript.lists l.transcript.accesses l.list l.self.ties.heaps.items l.first;
}
