use Rattle.std.proofs.Common.{◌≡◌, ◌≤◌, None, replicate, vec_capacity}
use Rattle.ca_core.proofs.ties.Ties.make.Given as goal

-- a heap for each list so far, and room for those of the others
abbrev pub invariant-loop-list : goal.invariant-loop-list
invariant-loop-list l = record {
  none : l.heaps.items ≡ replicate l.list (replicate l.room None);
  room : l.lists ≤ vec_capacity l.heaps;
}
