-- How a pool closes.
use Rattle.std.specs.Prelude.{◌≡◌, ◌<◌, ◌≤◌, ◌+◌, ◌-◌, ◌⊎◌, ℕ, max, List, length, Contains}
use Rattle.atomic_table.specs.Seated.{TableId}
use Rattle.turn_lock.specs.declared.known.Known.{Known}
use Rattle.turn_lock.specs.Facts.{IsFrontOf, AtMost}
use Rattle.turn_lock.specs.Known.{all_parts}
use Rattle.source_state.specs.declared.entry.LogEntry.{LogEntry}
use Rattle.source_state.specs.State.{State, state_at, IsSound}
use Rattle.source_pool.specs.declared.hold.Hold.{Hold}
use Rattle.source_pool.specs.Passes.{Feed, hold_at, feed_at}

-- the pass and the feeders have all parts of every source between them
pub record HaveAll (pool : List TableId) (holds : List Hold) (feeds : List Feed) : Type 0 where
  pub parts : (source : ℕ) → source < length pool → (hold_at holds source).pass.1.parts + (feed_at feeds source).pass.1.parts ≡ all_parts

-- the closing state of a source, by what the feeder's pass and the last pass know of it: the feeder knows its whole log and tally, and
-- the pass a front of them; its want is the greatest that either set, and its asks are those that both added: as many, and each of them one of theirs
pub record IsClosed (feeder pass : Known LogEntry) (state : State) : Type 0 where
  pub sound : IsSound state
  pub name : (state.list, state.count) ≡ feeder.name
  pub log : state.log ≡ feeder.seen
  pub tally : state.tally ≡ feeder.tally
  pub want : state.want ≡ max feeder.high pass.high
  pub asks : length state.asks ≡ feeder.asked + pass.asked
  pub mine : (object : ℕ) → Contains state.asks object → Contains feeder.mine object ⊎ Contains pass.mine object
  pub seen : IsFrontOf pass.seen state.log
  pub met : IsFrontOf pass.met state.asks
  pub fails : AtMost pass.tally state.tally
  pub sight : feeder.sight.mark ≤ state.want
  pub asked : IsFrontOf feeder.met state.asks

-- the closing states of the sources, in their order
pub record AreClosed (pool : List TableId) (holds : List Hold) (feeds : List Feed) (states : List State) : Type 0 where
  pub size : length states ≡ length pool
  pub each : (source : ℕ) → source < length pool → IsClosed (feed_at feeds source).pass.1 (hold_at holds source).pass.1 (state_at states source)

-- the same from the last source to the first
pub record AreClosedBack (pool : List TableId) (holds : List Hold) (feeds : List Feed) (states : List State) : Type 0 where
  pub size : length states ≡ length pool
  pub each : (source : ℕ) → source < length pool
      → IsClosed (feed_at feeds source).pass.1 (hold_at holds source).pass.1 (state_at states (length pool - 1 - source))
