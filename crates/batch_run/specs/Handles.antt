-- What the handles of a run leave.
use Rattle.std.specs.Prelude.{◌≡◌, ◌<◌, ℕ, List, length}
use Rattle.std.specs.List.{slice_index_or}
use Rattle.atomic_table.specs.Seated.{TableId}
use Rattle.query_core.specs.declared.ready.Ready.{Ready}
use Rattle.batch_run.specs.declared.work.Worker.{Worker}
use Rattle.keyed_lock.specs.declared.handles.WorkerHandle.{WorkerHandle}
use Rattle.fetcher.specs.declared.slot.Slot.{Slot}
use Rattle.fetcher.specs.declared.serving.Began.{Began}
use Rattle.batch_run.specs.Working.{Worked}

-- all workers have worked, at their places
pub record AllHandles {S : Type 0} (pool : List TableId) (tickets : TableId) (readies : List Ready) (before after : List (WorkerHandle Worker (Slot S) (Began S))) : Type 0 where
  pub size : length after ≡ length before
  pub worked : (i : ℕ) (d : WorkerHandle Worker (Slot S) (Began S)) → i < length before
      → Worked pool tickets readies (slice_index_or before i d).worker (slice_index_or after i d).worker
