-- What the state keeps: notes of its log, and the rows, the asks and the row fault that they note.
use Rattle.std.specs.Prelude.{◌≡◌, ◌≤◌, ◌+◌, ◌*◌, ℕ, Option, Some, None, List, drop, filter_map, length, map, slice_get, vec_capacity}
use Rattle.std.specs.Option.{option_map, option_and_then}
use Rattle.ranked_list.specs.declared.row.Row.{Row}
use Rattle.source_state.specs.declared.ask.Ask.{Ask}
use Rattle.source_state.specs.declared.entry.LogEntry.{LogEntry}
use Rattle.source_state.specs.declared.entry.LogEntry.TheVariants as entry
use Rattle.source_state.specs.declared.entry.SourceFault.{SourceFault}
use Rattle.source_state.specs.declared.entry.Note.{Note}
use Rattle.source_state.specs.declared.entry.Note.TheVariants as note
use Rattle.source_state.specs.Log.{rows_in, fault_in}
use Rattle.source_state.specs.Asks.{ask_in}
use Rattle.source_state.specs.State.{State, IsSound}
use Rattle.source_state.specs.Events.{with_rows}
use Rattle.source_state.specs.ObjectKeeping.{ObjectList, ask_objects}
use Rattle.source_state.specs.declared.state.Kept.{Kept}

-- what an ask settled as, as an entry
abbrev pub settled_entry : Ask → Option LogEntry
settled_entry ask = option_map (entry.Settled ask.object) ask.settling

-- the entry that a note tells: the row or the ask at its place, or the row fault; all of them
abbrev pub entry_of : ObjectList → Option SourceFault → Note → Option LogEntry
entry_of kept set (note.Kept place) = option_map entry.Kept (slice_get kept.rows place)
entry_of kept set (note.Settled place) = option_and_then settled_entry (slice_get kept.asks place)
entry_of kept set note.Fault = option_map entry.Fault set

abbrev pub entries_of : ObjectList → Option SourceFault → List Note → List LogEntry
entries_of kept set notes = filter_map (entry_of kept set) notes

-- the rows and the asks that a state shows
abbrev pub objects_of : State → ObjectList
objects_of s = record { room = s.count; rows = rows_in s.log; asks = map (ask_in s.log) s.asks }

-- the rows, the asks as they stand and the row fault are those of the log, each note tells its entry, and the state is sound
pub record KeepsState (s : State) (kept : ObjectList) (set : Option SourceFault) (notes : List Note) (capacity : ℕ) : Type 0 where
  pub objects : kept ≡ objects_of s
  pub fault : set ≡ fault_in s.log
  pub told : map (entry_of kept set) notes ≡ map (λ entry. Some entry) s.log
  pub reserved : 2 * s.count + 1 ≤ capacity
  pub sound : IsSound s

-- the state that the fields show
abbrev pub shown_by : Kept → State
shown_by kept = record {
  list = kept.list;
  count = kept.count;
  want = kept.want;
  log = entries_of kept.objects kept.fault kept.log.items;
  asks = ask_objects kept.objects.asks;
  tally = kept.tally;
  last_fail = kept.last_fail;
  paused = kept.paused;
}

-- the fields keep the state that they show
abbrev pub KeepsFields : Kept → Type 0
KeepsFields kept = KeepsState (shown_by kept) kept.objects kept.fault kept.log.items (vec_capacity kept.log)

-- the rows of a page that are left, from a place on, make of the state now what all of them made of it at the beginning
pub record RowsLeft (rows : List Row) (place : ℕ) (begun now : State) : Type 0 where
  pub left : with_rows now (drop place rows) ≡ with_rows begun rows
  pub no_fault : fault_in now.log ≡ None
  pub count : now.count ≡ begun.count
  pub came : length (rows_in now.log) ≡ length (rows_in begun.log) + place
  pub sound : IsSound now
