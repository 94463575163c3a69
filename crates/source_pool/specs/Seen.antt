-- What a pass knows of a source, as a state.
use Rattle.std.specs.Prelude.{false, None}
use Rattle.turn_lock.specs.declared.known.Known.{Known}
use Rattle.source_state.specs.declared.entry.LogEntry.{LogEntry}
use Rattle.source_state.specs.State.{State}

-- the state of a source as a pass saw it last: its log, its asks and how many fails of each kind came. How far rows are wanted, which kind of
-- fail came last, and whether the state is paused, isn't told by it
abbrev pub state_seen : Known LogEntry → State
state_seen known = record {
  list = known.name.0;
  count = known.name.1;
  want = 0;
  log = known.seen;
  asks = known.met;
  tally = known.tally;
  last_fail = None;
  paused = false;
}
