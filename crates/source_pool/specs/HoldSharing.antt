-- How a pass of one source is opened, split and joined.
use Rattle.std.specs.Prelude.{◌+◌, ℕ, min, None}
use Rattle.turn_lock.specs.declared.facts.Tally.{Tally}
use Rattle.turn_lock.specs.declared.known.Known.{Known}
use Rattle.turn_lock.specs.Known.{without, split_off, joined}
use Rattle.turn_lock.specs.Known as lock
use Rattle.source_state.specs.declared.entry.LogEntry.{LogEntry}
use Rattle.source_state.specs.State.{opened, facts_of, last_count}
use Rattle.source_pool.specs.declared.hold.Hold.{Hold}
use Rattle.source_pool.specs.Holds.{no_fails, no_waiting}
use Rattle.source_pool.specs.Remembering.{nothing}

-- the writer's pass of the lock round the state of a source with so many objects, before any part is split off
abbrev pub first_known : ℕ → ℕ → Known LogEntry
first_known source count = lock.opened (facts_of (opened source count))

-- what a pass holds of a source after one part was split off, and what the new pass holds, which did nothing, waits for nothing and
-- remembers nothing
abbrev pub kept_hold : Hold → Hold
kept_hold hold = record hold { pass = (hold.pass.0, without 1 hold.pass.1) }

abbrev pub new_hold : Hold → Hold
new_hold hold = record { pass = (hold.pass.0, split_off 1 hold.pass.1); waiting = no_waiting; shown = no_fails; remembered = nothing }

-- two counts together, which stand still at their last number
abbrev pub added : ℕ → ℕ → ℕ
added m n = min (m + n) last_count

abbrev pub all_shown : Tally → Tally → Tally
all_shown one other = record {
  failed = added one.failed other.failed;
  garbled = added one.garbled other.garbled;
  memory = added one.memory other.memory;
}

-- what one pass holds that was made of two: it knows what either does, was shown what both were, waits for nothing and remembers
-- nothing
abbrev pub joined_hold : Hold → Hold → Hold
joined_hold one other = record {
  pass = (one.pass.0, joined one.pass.1 other.pass.1);
  waiting = record one.waiting { need = None };
  shown = all_shown one.shown other.shown;
  remembered = nothing;
}
