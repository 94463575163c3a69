-- What workers and fetchers have of a slot table, and what it is opened over.
use denote.Ref.{MutBor}
use denote.Param.Members.{Shared}
use Rattle.std.specs.Fork.{ChangesEach}
use Rattle.std.specs.Prelude.{◌≡◌, ◌<◌, ◌+◌, ℕ, Option, Some, List, All, length, vec_len, slice_index_or}
use Rattle.atomic_table.specs.Seated.{TableId}
use Rattle.topk_base.specs.declared.settings.Settings.{Settings}
use Rattle.keyed_lock.specs.Hold.{Lock, all_parts, share_of}
use Rattle.keyed_lock.specs.declared.hold.Hold.{Hold}
use Rattle.keyed_lock.specs.declared.handles.WorkerHandle.{WorkerHandle}
use Rattle.source_pool.specs.Passes.{Feed, IsIdleOf}
use Rattle.fetcher.specs.declared.slot.Slot.{Slot}
use Rattle.fetcher.specs.declared.serving.Began.{Began}
use Rattle.fetcher.specs.declared.slot_table.SlotTable.{SlotTable}
use Rattle.workers.specs.declared.sides.WorkerHandles.{WorkerHandles}

-- there is a feeder of this pool, which has no turn
pub record HasFeeder (pool : List TableId) (feeder : Option Feed) : Type 0 where
  pub feed : Feed
  pub is : feeder ≡ Some feed
  pub idle : IsIdleOf pool feed

-- a slot table was opened over these slots, by these settings
pub record IsOpenedOver {S : Type 0} (settings : Settings) (slots : List (Slot S)) (table : SlotTable S) : Type 0 where
  pub page : table.lock.key.page ≡ settings.page
  pub ahead : table.lock.key.ahead ≡ settings.ahead
  pub are : table.lock.key.slots.value.items ≡ slots

-- each of so many fetchers has a pass of one part to a lock
pub record AreFetchers {S : Type 0} (lock : Lock (Began S)) (sources : ℕ) (fetchers : List (TableId × Hold (Began S))) : Type 0 where
  pub shares : All (λ own. own ≡ share_of lock 1) fetchers
  pub size : length fetchers ≡ sources

-- so does each worker, and the first pass has all other parts
pub record AreHandles {K S : Type 0} (lock : Lock (Began S)) (sources : ℕ) (handles : WorkerHandles K S) : Type 0 where
  pub workers : All (λ (handle : WorkerHandle K (Slot S) (Began S)). handle.pass ≡ share_of lock 1) handles.workers.items
  pub fetchers : AreFetchers lock sources handles.fetchers.items
  pub first : handles.first ≡ share_of lock handles.first.1.parts
  pub whole : handles.first.1.parts + vec_len handles.workers + sources ≡ all_parts

-- workers keep their passes, at their places
pub record KeepPasses {K S : Type 0} (before after : List (WorkerHandle K (Slot S) (Began S))) : Type 0 where
  pub size : length after ≡ length before
  pub each : (i : ℕ) (d : WorkerHandle K (Slot S) (Began S)) → i < length before → (slice_index_or after i d).pass ≡ (slice_index_or before i d).pass

module _ {F H : Type 0} (g : Shared F (ℕ × (MutBor H × Unit {0})) (Unit {0} × (MutBor H × Unit {0}))) (f : F) where
  -- each worker is as a call of f left it, at its place
  pub record WorkDone (before after : List H) : Type 0 where
    pub size : length after ≡ length before
    pub each : ChangesEach g f before after
