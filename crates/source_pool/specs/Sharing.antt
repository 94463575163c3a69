-- How a pool opens, and how its passes are split and joined.
use Rattle.std.specs.Prelude.{◌≡◌, ◌<◌, ◌≤◌, ◌-◌, ℕ, List, length, slice_index}
use Rattle.atomic_table.specs.Seated.{TableId}
use Rattle.turn_lock.specs.Known.{all_parts, Follows, without, split_off}
use Rattle.source_pool.specs.declared.hold.Hold.{Hold}
use Rattle.source_pool.specs.Holds.{no_fails, no_waiting}
use Rattle.source_pool.specs.Remembering.{nothing}
use Rattle.source_pool.specs.HoldSharing.{first_known, kept_hold, new_hold, joined_hold}
use Rattle.source_pool.specs.Passes.{lock_at, hold_at, feed_at, Feed, IsPassOf, AreFeedersOf}

-- what the first pass of a pool holds: all parts but the feeder's one
abbrev pub first_hold : TableId → ℕ → ℕ → Hold
first_hold table source count = record { pass = (table, split_off (all_parts - 1) (first_known source count)); waiting = no_waiting; shown = no_fails; remembered = nothing }

abbrev pub first_feed : TableId → ℕ → ℕ → Feed
first_feed table source count = record { source = source; pass = (table, without (all_parts - 1) (first_known source count)) }

-- a pool of sources with these counts, its first pass and its feeders
pub record IsOpened (counts : List ℕ) (pool : List TableId) (holds : List Hold) (feeds : List Feed) : Type 0 where
  pub size : length pool ≡ length counts
  pub pass : IsPassOf pool holds
  pub feeders : AreFeedersOf pool feeds
  pub held : (source : ℕ) → source < length counts → hold_at holds source ≡ first_hold (lock_at pool source) source (slice_index counts source)
  pub fed : (source : ℕ) → source < length counts → feed_at feeds source ≡ first_feed (lock_at pool source) source (slice_index counts source)

-- the pass has two parts of each source at least
pub record MaySplit (pool : List TableId) (holds : List Hold) : Type 0 where
  pub parts : (source : ℕ) → source < length pool → 2 ≤ (hold_at holds source).pass.1.parts

-- of each source the pass keeps all parts but one, and the new pass has that one
pub record IsSplit (pool : List TableId) (before after new : List Hold) : Type 0 where
  pub kept : (source : ℕ) → source < length pool → hold_at after source ≡ kept_hold (hold_at before source)
  pub given : (source : ℕ) → source < length pool → hold_at new source ≡ new_hold (hold_at before source)

-- of each source the pass holds what both held, and knows at least what either did
pub record IsJoined (pool : List TableId) (before other after : List Hold) : Type 0 where
  pub holds : (source : ℕ) → source < length pool → hold_at after source ≡ joined_hold (hold_at before source) (hold_at other source)
  pub follows : (source : ℕ) → source < length pool → Follows (hold_at before source).pass.1 (hold_at after source).pass.1
  pub knows : (source : ℕ) → source < length pool → Follows (hold_at other source).pass.1 (hold_at after source).pass.1
