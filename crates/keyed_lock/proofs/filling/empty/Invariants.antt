use Rattle.std.proofs.Common.{◌≡◌, ◌≤◌, ◌+◌, ◌++◌, Some, map, vec_len, vec_capacity}
use Rattle.std.specs.Prelude.{reverse}
use Rattle.keyed_lock.proofs.filling.empty.Given as goal

abbrev pub invariant-loop-slot : goal.invariant-loop-slot
invariant-loop-slot g l = record {
  emptied : map Some l.values.items ++ reverse l.slots.items ≡ l.fn.slots.items;
  room : vec_len l.values + vec_len l.slots ≤ vec_capacity l.values;
  kept : vec_capacity l.values ≡ vec_capacity l.fn.values;
}

abbrev pub decreases-loop-slot : goal.decreases-loop-slot
decreases-loop-slot g l = vec_len l.slots
