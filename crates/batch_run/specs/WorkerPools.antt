-- What a worker pool is before it runs and after it, and how its passes come together.
use Rattle.std.specs.Prelude.{◌≡◌, ◌≤◌, ◌<◌, ◌+◌, ◌⊎◌, [], ℕ, None, List, Contains, length, slice_index, replicate, vec_capacity}
use Rattle.std.specs.List.{slice_index_or, sum_by}
use Rattle.atomic_table.specs.Seated.{TableId}
use Rattle.turn_lock.specs.Known.{all_parts, Follows}
use Rattle.tickets.specs.declared.draws.Draws.{Draws}
use Rattle.tickets.specs.Draws.{all_parts as all_draws, fresh as fresh_draws}
use Rattle.source_pool.specs.declared.hold.Hold.{Hold}
use Rattle.source_pool.specs.Passes.{Feed, lock_at, hold_at, feed_at, IsPassOf, AreFeedersOf}
use Rattle.source_pool.specs.HoldSharing.{new_hold}
use Rattle.source_pool.specs.Sharing.{first_hold, first_feed}
use Rattle.query_core.specs.declared.ready.Ready.{Ready}
use Rattle.source_api.specs.Counting.{NoneFell}
use Rattle.fetcher.specs.Turning.{Feeds}
use Rattle.fetcher.specs.Chaining.{moment, IsFetched, point, MadeItsCalls}
use Rattle.fetcher.specs.Metering.{IsMetered}
use Rattle.fetcher.specs.Moving.{MovesOnly}
use Rattle.batch_result.specs.Using.{IsReplaced}
use Rattle.topk_base.specs.declared.settings.Settings.{Settings}
use Rattle.batch_run.specs.declared.work.Worker.{Worker}
use Rattle.batch_run.specs.declared.worker_pool.WorkerPool.{WorkerPool}
use Rattle.batch_run.specs.Working.{IsAtWork}
use Rattle.batch_run.specs.Slots.{SlotState, slot_at}

-- what a worker's pass holds of a source before it works: it did nothing yet, and waits for nothing
abbrev pub fresh_hold : List TableId → List ℕ → ℕ → Hold
fresh_hold pool counts source = new_hold (first_hold (lock_at pool source) source (slice_index counts source))

-- a worker that was made, with a pass of this pool and one of these tickets, which drew nothing
pub record IsNewWorker (pool : List TableId) (tickets : TableId) (counts : List ℕ) (worker : Worker) : Type 0 where
  pub own : IsPassOf pool worker.pass
  pub fresh : (source : ℕ) → source < length counts → hold_at worker.pass source ≡ fresh_hold pool counts source
  pub draws : worker.draws ≡ (tickets, fresh_draws 1)
  pub none : worker.ended.items ≡ []

-- the first pass of a pool after so many passes were split off: it has all other parts but the feeder's one, did nothing, and is one that
-- gives fresh passes
pub record IsBase (pool : List TableId) (counts : List ℕ) (given : ℕ) (holds : List Hold) : Type 0 where
  pub size : length pool ≡ length counts
  pub own : IsPassOf pool holds
  pub parts : (source : ℕ) → source < length counts → (hold_at holds source).pass.1.parts + given + 1 ≡ all_parts
  pub high : (source : ℕ) → source < length counts → (hold_at holds source).pass.1.high ≡ 0
  pub asked : (source : ℕ) → source < length counts → (hold_at holds source).pass.1.asked ≡ 0
  pub mine : (source : ℕ) → source < length counts → (hold_at holds source).pass.1.mine ≡ []
  pub gives : (source : ℕ) → source < length counts → new_hold (hold_at holds source) ≡ fresh_hold pool counts source

-- the first pass of these tickets after so many of their parts were split off: it drew nothing
pub record IsFirst (tickets : TableId) (given : ℕ) (draws : TableId × Draws) : Type 0 where
  pub of : draws.0 ≡ tickets
  pub parts : draws.1.parts + given ≡ all_draws
  pub none : draws.1.drawn ≡ []

-- so many workers were made
pub record AreNewWorkers (pool : List TableId) (tickets : TableId) (counts : List ℕ) (holds : List Hold) (draws : TableId × Draws) (workers : List Worker) : Type 0 where
  pub base : IsBase pool counts (length workers) holds
  pub first : IsFirst tickets (length workers) draws
  pub each : (i : ℕ) (d : Worker) → i < length workers → IsNewWorker pool tickets counts (slice_index_or workers i d)

-- a worker pool for sources with these counts and for so many queries, with so many workers
pub record IsNewWorkerPool (counts : List ℕ) (queries workers : ℕ) (worker_pool : WorkerPool) : Type 0 where
  pub new_workers : AreNewWorkers worker_pool.pool worker_pool.tickets counts worker_pool.pass worker_pool.draws worker_pool.workers.items
  pub size : length worker_pool.workers.items ≡ workers
  pub feeders : AreFeedersOf worker_pool.pool worker_pool.feeders.items
  pub fed : (source : ℕ) → source < length counts → feed_at worker_pool.feeders.items source ≡ first_feed (lock_at worker_pool.pool source) source (slice_index counts source)
  pub places : worker_pool.places.items ≡ replicate queries None
  pub endings : (worker_pool.endings.items ≡ []) × (queries ≤ vec_capacity worker_pool.endings)
  pub uses : (worker_pool.uses.items ≡ []) × (length counts ≤ vec_capacity worker_pool.uses)

-- what a worker leaves: its pass has one part of each source, and it ran some of the queries
pub record HasLeft (pool : List TableId) (tickets : TableId) (counts : List ℕ) (readies : List Ready) (worker : Worker) : Type 0 where
  pub at_work : IsAtWork pool tickets readies worker
  pub name : (source : ℕ) → source < length counts → (hold_at worker.pass source).pass.1.name ≡ (source, slice_index counts source)
  pub parts : (source : ℕ) → source < length counts → (hold_at worker.pass source).pass.1.parts ≡ 1

-- what a fetcher did of the source of a number, which has so many objects, between what stood in its slot before and what stands there now
pub record HasFetched (pool : List TableId) (settings : Settings) (source count : ℕ) (before after : SlotState) (feed : Feed) : Type 0 where
  pub told : after.told ≡ before.told
  pub version : after.version ≡ before.version
  pub later : NoneFell before.counts after.counts
  pub feeds : Feeds (first_feed (lock_at pool source) source count).pass.1 feed.pass.1
  pub turns : IsFetched settings.page settings.ahead before.told (moment before.counts (first_feed (lock_at pool source) source count).pass.1)
      (moment after.counts feed.pass.1)
  pub called : MadeItsCalls settings.page settings.ahead (point before.calls (first_feed (lock_at pool source) source count).pass.1)
      (point after.calls feed.pass.1)
  pub metered : IsMetered settings.page settings.ahead after.fetched before.counts after.counts
      (first_feed (lock_at pool source) source count).pass.1 feed.pass.1
  pub moved : MovesOnly (IsReplaced before.version before.counts after.counts) (first_feed (lock_at pool source) source count).pass.1.seen feed.pass.1.seen

-- a worker pool that has run: its first passes did nothing, each worker ran some of the queries, and each feeder fetched
pub record HasRun (settings : Settings) (counts : List ℕ) (readies : List Ready) (before after : List SlotState) (worker_pool : WorkerPool) : Type 0 where
  pub base : IsBase worker_pool.pool counts (length worker_pool.workers.items) worker_pool.pass
  pub first : IsFirst worker_pool.tickets (length worker_pool.workers.items) worker_pool.draws
  pub size : length worker_pool.workers.items ≡ settings.workers
  pub slots : (length before ≡ length counts) × (length after ≡ length counts)
  pub each : (i : ℕ) (d : Worker) → i < length worker_pool.workers.items → HasLeft worker_pool.pool worker_pool.tickets counts readies (slice_index_or worker_pool.workers.items i d)
  pub feeders : AreFeedersOf worker_pool.pool worker_pool.feeders.items
  pub fetched : (source : ℕ) → source < length counts
      → HasFetched worker_pool.pool settings source (slice_index counts source) (slot_at before source) (slot_at after source) (feed_at worker_pool.feeders.items source)
  pub places : worker_pool.places.items ≡ replicate (length readies) None
  pub endings : (worker_pool.endings.items ≡ []) × (length readies ≤ vec_capacity worker_pool.endings)
  pub uses : (worker_pool.uses.items ≡ []) × (length counts ≤ vec_capacity worker_pool.uses)

-- these passes were joined to a pass
pub record Rejoins (pool : List TableId) (others : List (List Hold)) (before after : List Hold) : Type 0 where
  pub own : IsPassOf pool after
  pub knows : (other : List Hold) → Contains others other → (source : ℕ) → source < length pool
      → Follows (hold_at other source).pass.1 (hold_at after source).pass.1
  pub parts : (source : ℕ) → source < length pool
      → (hold_at after source).pass.1.parts ≡ (hold_at before source).pass.1.parts + sum_by (λ other. (hold_at other source).pass.1.parts) others
  pub asked : (source : ℕ) → source < length pool
      → (hold_at after source).pass.1.asked ≡ (hold_at before source).pass.1.asked + sum_by (λ other. (hold_at other source).pass.1.asked) others
  pub mine : (source : ℕ) → source < length pool → (object : ℕ) → Contains (hold_at after source).pass.1.mine object
      → Contains (hold_at before source).pass.1.mine object
      ⊎ ((other : List Hold) × Contains others other × Contains (hold_at other source).pass.1.mine object)
  pub high : (source : ℕ) → source < length pool → ((hold_at after source).pass.1.high ≡ (hold_at before source).pass.1.high)
      ⊎ ((other : List Hold) × Contains others other × ((hold_at after source).pass.1.high ≡ (hold_at other source).pass.1.high))
