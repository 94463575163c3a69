-- What the turns of a fetcher bring together.
use Rattle.std.specs.Prelude.{◌≡◌, ◌≤◌, ◌<◌, ◌+◌, ◌-◌, ◌^◌, ℕ, max, None, [], length}
use Rattle.tk_io.specs.Faults.{Rose}
use Rattle.turn_lock.specs.declared.known.Known.{Known}
use Rattle.source_state.specs.declared.entry.LogEntry.{LogEntry}
use Rattle.source_state.specs.Log.{rows_in, settled_in, fault_in}
use Rattle.source_state.specs.State.{State}
use Rattle.source_state.specs.Looking.{reach_of, state_reach}
use Rattle.source_api.specs.declared.counts.Counts.{Counts}
use Rattle.source_api.specs.Counting.{raised}
use Rattle.fetcher.specs.declared.turned.Fetched.{Fetched}
use Rattle.fetcher.specs.declared.turned.Turned.{Turned}
use Rattle.fetcher.specs.declared.turned.Turned.TheVariants as turned
use Rattle.fetcher.specs.Causes.{HasGiven}
use Rattle.fetcher.specs.Moving.{MovesOnly}

-- a count went up by so many, and stands still at the last value of its type
abbrev pub WentUp : ℕ → ℕ → ℕ → Type 0
WentUp number before now = raised now 0 ≡ raised before number

-- a count went up by so many at least, or stands at its last value
abbrev pub RoseBy : ℕ → ℕ → ℕ → Type 0
RoseBy number before now = raised before number ≤ now

-- what was fetched of a source: its counts rose by the rows and grades that were given; the rows kept before and those given are
-- together within the reach of the want that was seen, if any were given, and no row is kept that wasn't given; what stands in a log that was
-- empty comes of the rows that were given; each grade that was given settled an object that was asked, and they are no more than the asks that
-- were seen; the fails that were counted are no more than the calls that failed; and the log tells that the list was replaced only where it did
-- before, or the count of moves rose
pub record IsMetered (page ahead : ℕ) (fetched : Fetched) (counts now : Counts) (before after : Known LogEntry) : Type 0 where
  pub rows : WentUp fetched.rows counts.rows_given now.rows_given
  pub grades : WentUp fetched.grades counts.grades_given now.grades_given
  pub reach : length (rows_in before.seen) + fetched.rows ≤ max (length (rows_in before.seen)) (reach_of after.sight.mark page ahead after.name.1)
  pub kept : length (rows_in after.seen) ≤ length (rows_in before.seen) + fetched.rows
  pub comes : before.seen ≡ [] → HasGiven fetched.rows after.name.1 after.seen
  pub settled : length (settled_in before.seen) + fetched.grades ≤ length (settled_in after.seen)
  pub asked : fetched.grades ≤ length after.met
  pub failed : RoseBy (after.tally.failed - before.tally.failed) counts.faults now.faults
  pub garbled : RoseBy (after.tally.garbled - before.tally.garbled) counts.garbles now.garbles
  pub moved : MovesOnly (λ had other. Rose counts.moves now.moves) before.seen after.seen

-- all rows that were given are kept, while no row fault stands
pub record KeepsAll (fetched : Fetched) (before now : Known LogEntry) : Type 0 where
  pub rows : fault_in now.seen ≡ None → length (rows_in now.seen) ≡ length (rows_in before.seen) + fetched.rows

-- what was metered, as the next turn finds it
pub record Meters (page ahead : ℕ) (fetched : Fetched) (counts now : Counts) (before after : Known LogEntry) : Type 0 where
  pub metered : IsMetered page ahead fetched counts now before after
  pub kept : KeepsAll fetched before after
  pub since : counts.moves ≤ now.moves

-- what was fetched is called for: the rows kept before and those given are together within the reach of the greatest depth that was
-- wanted, if any were given, and the grades that were given are no more than the objects that were asked
pub record IsCalledFor (page ahead : ℕ) (fetched : Fetched) (before : Known LogEntry) (state : State) : Type 0 where
  pub rows : length (rows_in before.seen) + fetched.rows ≤ max (length (rows_in before.seen)) (state_reach state page ahead)
  pub grades : fetched.grades ≤ length state.asks

-- nothing fetched yet
abbrev pub nothing : Fetched
nothing = record { rows = 0; grades = 0 }

-- what was fetched, with what one more turn brought
abbrev pub counted_by : Fetched → Turned → Fetched
counted_by fetched (turned.Paged rows) = record fetched { rows = fetched.rows + rows }
counted_by fetched (turned.Graded object) = record fetched { grades = fetched.grades + 1 }
counted_by fetched (turned.Missed object) = record fetched { grades = fetched.grades + 1 }
counted_by fetched (turned.Troubled why) = fetched
counted_by fetched turned.Idle = fetched

-- the count that one more turn raises stays within 32 bits
abbrev pub HasCountOf : Fetched → Turned → Type 0
HasCountOf fetched (turned.Paged rows) = fetched.rows + rows < 2 ^ 32
HasCountOf fetched (turned.Graded object) = fetched.grades + 1 < 2 ^ 32
HasCountOf fetched (turned.Missed object) = fetched.grades + 1 < 2 ^ 32
HasCountOf fetched (turned.Troubled why) = Unit {0}
HasCountOf fetched turned.Idle = Unit {0}
