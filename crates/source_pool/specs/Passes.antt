-- What contracts see of a pool, of its passes and of its feeders. A pool is the list of the locks of its sources.
use Rattle.std.specs.Prelude.{◌≡◌, ◌≢◌, ◌<◌, ℕ, List, length, None}
use Rattle.std.specs.List.{slice_index_or}
use Rattle.atomic_table.specs.Seated.{TableId}
use Rattle.turn_lock.specs.declared.facts.Facts.{Facts}
use Rattle.turn_lock.specs.Known.{holding, after_turn}
use Rattle.source_state.specs.declared.entry.LogEntry.{LogEntry}
use Rattle.source_pool.specs.declared.hold.Hold.{Hold}
use Rattle.source_state.specs.State.{IsSound}
use Rattle.source_pool.specs.Holds.{SourcePass, no_lock, no_pass, no_hold, IsFree}
use Rattle.source_pool.specs.Seen.{state_seen}
use Rattle.source_pool.specs.Remembering.{Remembers}

-- the lock of a source, by the source's number; what a pool's pass holds of it
abbrev pub lock_at : List TableId → ℕ → TableId
lock_at pool source = slice_index_or pool source no_lock

abbrev pub hold_at : List Hold → ℕ → Hold
hold_at holds source = slice_index_or holds source no_hold

-- a pass of this pool: of each source it holds a pass of its lock, which has no turn; what it has seen of the source is sound, and
-- what it remembers is of that
pub record IsPassOf (pool : List TableId) (holds : List Hold) : Type 0 where
  pub size : length holds ≡ length pool
  pub each : (source : ℕ) → source < length pool → IsFree (lock_at pool source) (hold_at holds source).pass
  pub sound : (source : ℕ) → source < length pool → IsSound (state_seen (hold_at holds source).pass.1)
  pub remembers : (source : ℕ) → source < length pool → Remembers (hold_at holds source).pass.1.seen (hold_at holds source).remembered

-- what is held of the other sources stays
pub record OthersStay (source : ℕ) (before after : List Hold) : Type 0 where
  pub stay : (other : ℕ) → other ≢ source → hold_at after other ≡ hold_at before other

-- what contracts see of a feeder: the number of its source, and the writer's pass of that source's lock
pub record Feed : Type 0 where
  pub source : ℕ
  pub pass : SourcePass

-- a feeder of this pool: its source is there, and its pass is of the lock of this source
pub record IsFeederOf (pool : List TableId) (feed : Feed) : Type 0 where
  pub source : feed.source < length pool
  pub own : feed.pass.0 ≡ lock_at pool feed.source

-- a feeder of this pool that has no turn
pub record IsIdleOf (pool : List TableId) (feed : Feed) : Type 0 where
  pub of : IsFeederOf pool feed
  pub rests : feed.pass.1.held ≡ None

-- the feeder in a turn in which it took a state of these facts
abbrev pub in_turn : Facts LogEntry → Feed → Feed
in_turn taken feed = record feed { pass = (feed.pass.0, holding taken feed.pass.1) }

-- the feeder after a turn in which it took the one and gave the other
abbrev pub turned : Facts LogEntry → Facts LogEntry → Feed → Feed
turned taken given feed = record feed { pass = (feed.pass.0, after_turn taken given feed.pass.1) }

-- no feeder
abbrev pub no_feed : Feed
no_feed = record { source = 0; pass = no_pass }

-- the feeder of a source
abbrev pub feed_at : List Feed → ℕ → Feed
feed_at feeds source = slice_index_or feeds source no_feed

-- the feeders of this pool, one for each source in the order of the sources, which have no turn
pub record AreFeedersOf (pool : List TableId) (feeds : List Feed) : Type 0 where
  pub size : length feeds ≡ length pool
  pub each : (source : ℕ) → source < length pool → IsFree (lock_at pool source) (feed_at feeds source).pass
  pub sources : (source : ℕ) → source < length pool → (feed_at feeds source).source ≡ source
