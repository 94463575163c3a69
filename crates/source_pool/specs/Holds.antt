-- What contracts see of a pass of one source.
use Rattle.std.specs.Prelude.{◌≡◌, [], None}
use Rattle.atomic_table.specs.Seated.{TableId}
use Rattle.turn_lock.specs.declared.facts.Tally.{Tally}
use Rattle.turn_lock.specs.declared.known.Known.{Known}
use Rattle.turn_lock.specs.Rule.{nobody}
use Rattle.source_state.specs.declared.entry.LogEntry.{LogEntry}
use Rattle.source_state.specs.declared.look.Waiting.{Waiting}
use Rattle.source_pool.specs.declared.hold.Hold.{Hold}
use Rattle.source_pool.specs.Remembering.{nothing}

-- a pass of the lock of a source: the lock's table, and what the pass knows
abbrev pub SourcePass : Type 0
SourcePass = TableId × Known LogEntry

-- no lock, a pass that knows nothing, and what is held of a source that isn't there
abbrev pub no_lock : TableId
no_lock = record { words = 0; slots = 0; views_name = 0; atom = 0; block = 0; offset = 0; slot_names = [] }

abbrev pub no_pass : SourcePass
no_pass = (no_lock, nobody)

abbrev pub no_fails : Tally
no_fails = record { failed = 0; garbled = 0; memory = 0 }

abbrev pub no_waiting : Waiting
no_waiting = record { need = None; noted = no_fails }

abbrev pub no_hold : Hold
no_hold = record { pass = no_pass; waiting = no_waiting; shown = no_fails; remembered = nothing }

-- a pass is of a lock and has no turn
pub record IsFree (lock : TableId) (pass : SourcePass) : Type 0 where
  pub own : pass.0 ≡ lock
  pub rests : pass.1.held ≡ None
