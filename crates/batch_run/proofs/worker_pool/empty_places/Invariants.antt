use Rattle.std.proofs.Common.{◌≡◌, ◌≤◌, None, replicate, vec_capacity}
use Rattle.batch_run.proofs.worker_pool.empty_places.Given as goal

abbrev pub invariant-loop : goal.invariant-loop
invariant-loop l = record {
  none : l.places.items ≡ replicate l.counter None;
  room : l.queries ≤ vec_capacity l.places;
}
