-- Turns over the slot table of a run, and who may take them.
use Rattle.std.specs.Prelude.{◌≡◌, ◌<◌, ℕ, Option, None, List, length, vec_len}
use Rattle.std.specs.List.{slice_index_or}
use Rattle.ranked_list.specs.declared.row.Row.{Row}
use Rattle.atomic_table.specs.Seated.{TableId}
use Rattle.keyed_lock.specs.declared.hold.Hold.{Hold}
use Rattle.keyed_lock.specs.Hold.{IsPassOf}
use Rattle.source_api.specs.declared.counts.Counts.{Counts}
use Rattle.source_api.specs.Calls.{Call}
use Rattle.fetcher.specs.declared.slot.Slot.{Slot}
use Rattle.fetcher.specs.Serving.{IsServed}
use Rattle.fetcher.specs.declared.serving.Began.{Began}
use Rattle.fetcher.specs.declared.slot_table.SlotTable.{SlotTable}

-- a slot table of a run: its slots are those of the sources of this pool, in their order
pub record IsSlotTable {S : Type 0} (table : SlotTable S) (pool : List TableId) : Type 0 where
  pub of : table.lock.key.pool.value ≡ pool
  pub page : table.lock.key.page ≡ table.page
  pub ahead : table.lock.key.ahead ≡ table.ahead
  pub size : table.lock.size ≡ length pool
  pub many : length table.lock.key.slots.value.items ≡ length pool
  pub notifies : vec_len table.notifies ≡ length pool

-- who has this pass may take turns over the slot table
pub record MayServe {S : Type 0} (table : SlotTable S) (pool : List TableId) (pass : TableId × Hold (Began S)) : Type 0 where
  pub table_is : IsSlotTable table pool
  pub own : IsPassOf table.lock pass
  pub rests : pass.1.held ≡ None

module _ {S : Type 0} (list : S → Option (List Row)) (counts : S → Counts) (calls : S → Option (List Call))
    (at_hand : S → ℕ) (states : S → Option ℕ) where
  -- turns were taken at slots, which stay at their places; of slots and themselves: none was taken yet
  pub record AreServed (pool : List TableId) (page ahead : ℕ) (before now : List (Slot S)) : Type 0 where
    pub size : length now ≡ length before
    pub each : (place : ℕ) (d : Slot S) → place < length before
        → IsServed list counts calls at_hand states pool page ahead (slice_index_or before place d) (slice_index_or now place d)
