use Rattle.std.proofs.Common.{◌≡◌, ◌≤◌, ℕ, List, vec_len, vec_capacity}
use Rattle.batch_run.specs.WorkerPools.{AreNewWorkers}
use Rattle.batch_run.proofs.worker_pool.make_workers.Given as goal

abbrev pub invariant-loop : goal.invariant-loop
invariant-loop l = record {
  new_workers : (counts : List ℕ) → AreNewWorkers l.pool l.tickets counts l.fn.pass l.fn.draws l.fn.workers.items
      → AreNewWorkers l.pool l.tickets counts l.pass l.draws l.workers.items;
  size : vec_len l.workers ≡ l.counter;
  room : l.count ≤ vec_capacity l.workers;
}
