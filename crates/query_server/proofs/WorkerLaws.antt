-- The workers of a worker pool that is new.
use Rattle.std.proofs.Common.{◌≡◌, ◌<◌, ℕ, List, [], All, length, slice_index, slice_index_or, ap, ◌∙◌, arith}
use Rattle.atomic_table.specs.Seated.{TableId}
use Rattle.source_pool.specs.declared.hold.Hold.{Hold}
use Rattle.source_pool.specs.Passes.{hold_at}
use Rattle.batch_run.specs.declared.worker_pool.WorkerPool.{WorkerPool}
use Rattle.batch_run.specs.declared.work.Worker.{Worker}
use Rattle.batch_run.specs.WorkerPools.{IsNewWorker, AreNewWorkers}
use Rattle.batch_run.proofs.WorkerLaws.{made_at_work}
use Rattle.server_conn.specs.Entries.{Openings, IsThere, MayAnswer}
use Rattle.server_conn.specs.declared.opened.OpenedEntry.{OpenedEntry}
use Rattle.server_conn.specs.declared.opened.OpenedEntry.TheVariants.{Opened, NotOpened, TooLarge}
use Rattle.query_server.specs.Homes.{IsCounted}

-- a list that is open is there in a pool of these counts
is_there : (counts : List ℕ) (holds : List Hold) (entry : OpenedEntry) → length holds ≡ length counts
    → ((source : ℕ) → source < length counts → (hold_at holds source).pass.1.name.1 ≡ slice_index counts source) → IsCounted counts entry → IsThere holds entry
is_there counts holds (Opened count source version) size named counted = (
  (let l = counted.0 in omega (arith, l, size)),
  named source counted.0 ∙ counted.1,
)
is_there counts holds (NotOpened home) size named counted = tt
is_there counts holds (TooLarge count home) size named counted = tt

may_answer : (o : Openings) (counts : List ℕ) (pool : List TableId) (tickets : TableId) (worker : Worker) → length pool ≡ length counts
    → IsNewWorker pool tickets counts worker → All (IsCounted counts) o.entries → MayAnswer o pool worker.pass
may_answer o counts pool tickets worker size made counted = record {
  own = made.own;
  rests = (made_at_work pool tickets counts [] worker size made (λ i d l. absurd (omega (arith, l)))).rests;
  sources = λ i d l. is_there counts worker.pass (slice_index_or o.entries i d) (made.own.size ∙ size)
      (λ source m. ap (λ (hold : Hold). hold.pass.1.name.1) (made.fresh source m)) (counted i d l);
}

-- each worker of a new worker pool may serve connections
pub all_may_answer : (o : Openings) (counts : List ℕ) (worker_pool : WorkerPool) → AreNewWorkers worker_pool.pool worker_pool.tickets counts worker_pool.pass worker_pool.draws worker_pool.workers.items
    → All (IsCounted counts) o.entries → All (λ (worker : Worker). MayAnswer o worker_pool.pool worker.pass) worker_pool.workers.items
all_may_answer o counts worker_pool new_workers counted i d l =
    may_answer o counts worker_pool.pool worker_pool.tickets (slice_index_or worker_pool.workers.items i d) new_workers.base.size (new_workers.each i d l) counted
