-- What fetchers do with the slots of the sources.
use Rattle.std.specs.Prelude.{◌≡◌, ◌<◌, ℕ, Option, Some, None, List, length, map}
use Rattle.std.specs.List.{slice_index_or}
use Rattle.ranked_list.specs.declared.row.Row.{Row}
use Rattle.atomic_table.specs.Seated.{TableId}
use Rattle.source_api.specs.declared.counts.Counts.{Counts}
use Rattle.source_api.specs.Calls.{Call}
use Rattle.source_api.specs.Counting.{no_counts, NoneFell}
use Rattle.source_pool.specs.Passes.{Feed, IsIdleOf, feed_at}
use Rattle.fetcher.specs.declared.slot.Slot.{Slot}
use Rattle.fetcher.specs.declared.turned.Fetched.{Fetched}
use Rattle.fetcher.specs.Turning.{Feeds}
use Rattle.fetcher.specs.Chaining.{moment, IsFetched, point, MadeItsCalls}
use Rattle.fetcher.specs.Metering.{IsMetered, nothing}
use Rattle.fetcher.specs.Moving.{MovesOnly}
use Rattle.batch_result.specs.Using.{IsReplaced}
use Rattle.topk_base.specs.declared.settings.Settings.{Settings}

-- a slot of any kind of source: the list that its source tells, its version that is at hand, what the source counted, the calls that were made of it, its
-- feeder, and what was fetched
pub record SlotState : Type 0 where
  pub told : Option (List Row)
  pub version : ℕ
  pub counts : Counts
  pub calls : Option (List Call)
  pub feeder : Option Feed
  pub fetched : Fetched

module _ {S : Type 0} (list : S → Option (List Row)) (counts : S → Counts) (calls : S → Option (List Call)) (at_hand : S → ℕ) where
  abbrev pub state_of : Slot S → SlotState
  state_of slot = record {
    told = list slot.source;
    version = at_hand slot.source;
    counts = counts slot.source;
    calls = calls slot.source;
    feeder = slot.feeder;
    fetched = slot.fetched;
  }

  abbrev pub states_of : List (Slot S) → List SlotState
  states_of slots = map state_of slots

-- the state of the slot of a source; none of it where the source isn't there
abbrev pub slot_at : List SlotState → ℕ → SlotState
slot_at slots source =
    slice_index_or slots source (record { told = None; version = 0; counts = no_counts; calls = None; feeder = None; fetched = record { rows = 0; grades = 0 } })

-- a fetcher took turns by the feeder of a slot
pub record Fetches (pool : List TableId) (settings : Settings) (before after : SlotState) : Type 0 where
  pub feed : Feed
  pub left : Feed
  pub had : before.feeder ≡ Some feed
  pub has : after.feeder ≡ Some left
  pub idle : IsIdleOf pool left
  pub source : left.source ≡ feed.source
  pub told : after.told ≡ before.told
  pub version : after.version ≡ before.version
  pub later : NoneFell before.counts after.counts
  pub feeds : Feeds feed.pass.1 left.pass.1
  pub turns : IsFetched settings.page settings.ahead before.told (moment before.counts feed.pass.1) (moment after.counts left.pass.1)
  pub called : MadeItsCalls settings.page settings.ahead (point before.calls feed.pass.1) (point after.calls left.pass.1)
  pub metered : IsMetered settings.page settings.ahead after.fetched before.counts after.counts feed.pass.1 left.pass.1
  pub moved : MovesOnly (IsReplaced before.version before.counts after.counts) feed.pass.1.seen left.pass.1.seen

module _ {S : Type 0} (list : S → Option (List Row)) (counts : S → Counts) (calls : S → Option (List Call)) (at_hand : S → ℕ) where
  -- a fetcher took turns in each slot
  pub record AllFetch (pool : List TableId) (settings : Settings) (before after : List (Slot S)) : Type 0 where
    pub size : length after ≡ length before
    pub each : (i : ℕ) (d : Slot S) → i < length before
        → Fetches pool settings (state_of list counts calls at_hand (slice_index_or before i d)) (state_of list counts calls at_hand (slice_index_or after i d))

  -- each slot got the feeder of its place, nothing is fetched yet, and else it stays
  pub record AreLent (feeds : List Feed) (before after : List (Slot S)) : Type 0 where
    pub size : length after ≡ length before
    pub each : (i : ℕ) (d : Slot S) → i < length before
        → state_of list counts calls at_hand (slice_index_or after i d) ≡ record (state_of list counts calls at_hand (slice_index_or before i d)) { feeder = Some (feed_at feeds i); fetched = nothing }

  -- the feeders were taken out of the slots, which else stay
  pub record AreTakenBack (before : List (Slot S)) (feeds : List Feed) (after : List (Slot S)) : Type 0 where
    pub size : length after ≡ length before
    pub many : length feeds ≡ length before
    pub were : (i : ℕ) (d : Slot S) → i < length before → (slice_index_or before i d).feeder ≡ Some (feed_at feeds i)
    pub each : (i : ℕ) (d : Slot S) → i < length before
        → state_of list counts calls at_hand (slice_index_or after i d) ≡ record (state_of list counts calls at_hand (slice_index_or before i d)) { feeder = None }
