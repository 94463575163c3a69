-- What the turns at a slot keep, whoever takes them.
use Rattle.std.specs.Prelude.{◌≡◌, ◌≤◌, ℕ, Option, Some, List}
use Rattle.std.specs.List.{slice_index_or}
use Rattle.ranked_list.specs.declared.row.Row.{Row}
use Rattle.atomic_table.specs.Seated.{TableId}
use Rattle.source_api.specs.declared.counts.Counts.{Counts}
use Rattle.source_api.specs.Counting.{NoneFell}
use Rattle.source_api.specs.Calls.{Call}
use Rattle.source_pool.specs.Passes.{Feed, IsIdleOf}
use Rattle.fetcher.specs.declared.slot.Slot.{Slot}
use Rattle.fetcher.specs.Turning.{Feeds}
use Rattle.fetcher.specs.Chaining.{moment, IsFetched, point, MadeItsCalls}
use Rattle.fetcher.specs.Moving.{HasMovesOf}
use Rattle.fetcher.specs.Metering.{Meters}

module _ {S : Type 0} (list : S → Option (List Row)) (counts : S → Counts) (calls : S → Option (List Call))
    (at_hand : S → ℕ) (states : S → Option ℕ) where
  -- turns were taken by the feeder of a slot, one after another: what they brought is what one fetcher's turns bring, and the slot counts it
  pub record IsServed (pool : List TableId) (page ahead : ℕ) (before now : Slot S) : Type 0 where
    pub some_rows : 1 ≤ page
    pub few_rows : page ≤ 10000
    pub few_pages : ahead ≤ 100
    pub feed : Feed
    pub left : Feed
    pub had : before.feeder ≡ Some feed
    pub has : now.feeder ≡ Some left
    pub idle : IsIdleOf pool left
    pub source : left.source ≡ feed.source
    pub told : list now.source ≡ list before.source
    pub version : at_hand now.source ≡ at_hand before.source
    pub stated : states now.source ≡ states before.source
    pub later : NoneFell (counts before.source) (counts now.source)
    pub feeds : Feeds feed.pass.1 left.pass.1
    pub turns : IsFetched page ahead (list before.source) (moment (counts before.source) feed.pass.1) (moment (counts now.source) left.pass.1)
    pub called : MadeItsCalls page ahead (point (calls before.source) feed.pass.1) (point (calls now.source) left.pass.1)
    pub moved : HasMovesOf (at_hand before.source) (states before.source) (counts before.source) (counts now.source) feed.pass.1.seen left.pass.1.seen
    pub meters : Meters page ahead now.fetched (counts before.source) (counts now.source) feed.pass.1 left.pass.1

  -- the slot of a place goes on from what it was when the run began
  pub record IsServedFrom (pool : List TableId) (page ahead : ℕ) (slots : List (Slot S)) (place : ℕ) (now : Slot S) : Type 0 where
    pub served : (default : Slot S) → IsServed pool page ahead (slice_index_or slots place default) now
