use Rattle.std.proofs.Common.{◌≡◌, ◌≤◌, ◌+◌, ◌++◌, Some, map, reverse, vec_len, vec_capacity}
use Rattle.batch_run.proofs.finish.gather.Given as goal

abbrev pub invariant-loop-place : goal.invariant-loop-place
invariant-loop-place l = record {
  same : map Some l.endings.items ++ reverse l.places.items ≡ l.fn.places.items;
  room : vec_len l.endings + vec_len l.places ≤ vec_capacity l.endings;
}

abbrev pub decreases-loop-place : goal.decreases-loop-place
decreases-loop-place l = vec_len l.places
