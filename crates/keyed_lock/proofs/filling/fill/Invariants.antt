use Rattle.std.proofs.Common.{◌≡◌, ◌≤◌, ◌+◌, ◌++◌, Some, map, vec_len, vec_capacity}
use Rattle.std.specs.Prelude.{reverse}
use Rattle.keyed_lock.proofs.filling.fill.Given as goal

abbrev pub invariant-loop-value : goal.invariant-loop-value
invariant-loop-value g l = record {
  filled : l.slots.items ++ map Some (reverse l.values.items) ≡ map Some l.fn.values.items;
  room : vec_len l.slots + vec_len l.values ≤ vec_capacity l.slots;
  kept : vec_capacity l.values ≡ vec_capacity l.fn.values;
}

abbrev pub decreases-loop-value : goal.decreases-loop-value
decreases-loop-value g l = vec_len l.values
