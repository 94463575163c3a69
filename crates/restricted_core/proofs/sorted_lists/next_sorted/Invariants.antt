use Rattle.std.proofs.Common.{◌≤◌}
use Rattle.restricted_core.specs.Lists.{NoneBetween}
use Rattle.restricted_core.proofs.sorted_lists.next_sorted.Given as goal

abbrev pub invariant-loop-list : goal.invariant-loop-list
invariant-loop-list l = record {
  after : l.from ≤ l.list;
  none : NoneBetween l.sorted l.from l.list;
}
