-- What an event does to the state of a source, and when it may come.
use Rattle.std.specs.Prelude.{◌≡◌, ◌≢◌, ◌≤◌, ◌<◌, ◌+◌, ℕ, min, max, true, false, Option, Some, None, List, [], ◌∷◌, ◌++◌, length}
use Rattle.ranked_list.specs.declared.row.Row.{Row}
use Rattle.turn_lock.specs.declared.facts.Tally.{Tally}
use Rattle.turn_lock.specs.Facts.{AreFactsKept}
use Rattle.source_state.specs.declared.ask.Ask.{Ask as Asking}
use Rattle.source_state.specs.declared.entry.LogEntry.{LogEntry}
use Rattle.source_state.specs.declared.entry.LogEntry.TheVariants as entry
use Rattle.source_state.specs.declared.entry.Settling.TheVariants as settling
use Rattle.source_state.specs.declared.entry.Asked.TheVariants.{Pending}
use Rattle.source_api.specs.declared.source.FailKind.{FailKind}
use Rattle.source_api.specs.declared.source.FailKind.TheVariants.{Failed, Garbled, Memory}
use Rattle.source_state.specs.declared.entry.SourceFault.{SourceFault}
use Rattle.source_state.specs.declared.entry.SourceFault.TheVariants.{ShortList, Moved}
use Rattle.source_state.specs.declared.event.Event.{Event}
use Rattle.source_state.specs.declared.event.Event.TheVariants.{Want, Ask, Page, Grade, Miss, Fail, Move}
use Rattle.source_state.specs.declared.event.Applied.{Applied}
use Rattle.source_state.specs.declared.event.Applied.TheVariants.{Done, Broken}
use Rattle.source_state.specs.Log.{rows_in, fault_in}
use Rattle.source_state.specs.Asks.{ask_of}
use Rattle.source_state.specs.State.{State, asks_of, asked_in, row_fault, settle, last_count, facts_of}

-- the state with one more entry of its log
abbrev pub logged : State → LogEntry → State
logged s entry = record s { log = s.log ++ entry ∷ [] }

-- a want raises the greatest depth that was wanted, and ends a pause
abbrev pub wanted : State → ℕ → State
wanted s depth = record s { want = max s.want depth; paused = false }

-- the asks with one more object, where it isn't found
abbrev pub one_asked : Option Asking → ℕ → List ℕ → List ℕ
one_asked None object asks = asks ++ object ∷ []
one_asked (Some found) object asks = asks

-- an ask adds an object that isn't asked yet as the last one, and ends a pause
abbrev pub with_ask : State → ℕ → State
with_ask s object = record s { asks = one_asked (ask_of (asks_of s) object) object s.asks; paused = false }

-- one more row, and what follows where it is kept; a row at fault sets the row fault, and what follows is dropped
abbrev pub row_or : Option SourceFault → State → Row → (State → State) → State
row_or None s row next = next (logged s (entry.Kept row))
row_or (Some fault) s row next = logged s (entry.Fault fault)

-- the rows of a page one after another, up to the first at fault
abbrev pub with_rows : State → List Row → State
with_rows s [] = s
with_rows s (row ∷ rows) = row_or (row_fault (rows_in s.log) (asks_of s) row) s row (λ t. with_rows t rows)

-- a page: its rows, or the row fault that the list is short where it has none
abbrev pub paged : State → List Row → State
paged s [] = logged s (entry.Fault (ShortList s.count (length (rows_in s.log))))
paged s (row ∷ rows) = with_rows s (row ∷ rows)

-- one more in a count, which stands still at its last number
abbrev pub one_more : ℕ → ℕ
one_more count = min (count + 1) last_count

-- the number of a kind
abbrev pub count_of : FailKind → Tally → ℕ
count_of Failed tally = tally.failed
count_of Garbled tally = tally.garbled
count_of Memory tally = tally.memory

-- one more fail of a kind
abbrev pub counted : FailKind → Tally → Tally
counted Failed tally = record tally { failed = one_more tally.failed }
counted Garbled tally = record tally { garbled = one_more tally.garbled }
counted Memory tally = record tally { memory = one_more tally.memory }

-- a fail raises its count, and begins a pause
abbrev pub failed : State → FailKind → State
failed s what = record s { tally = counted what s.tally; last_fail = Some what; paused = true }

-- a list that was replaced: without an object that is the row fault, with one it is what the ask of the object settles as
abbrev pub moved : State → Option ℕ → SourceFault → State
moved s None fault = logged s (entry.Fault fault)
moved s (Some object) fault = logged s (entry.Settled object (settling.Bad fault))

-- the state after an event
abbrev pub after : State → Event → State
after s (Want depth) = wanted s depth
after s (Ask object) = with_ask s object
after s (Page rows) = paged s rows
after s (Grade object grade) = logged s (entry.Settled object (settle (rows_in s.log) object grade))
after s (Miss object) = logged s (entry.Settled object settling.Missed)
after s (Fail what) = failed s what
after s (Move object had now) = moved s object (Moved had now)

-- a page may come where no row fault stands, a row is missing, and its rows are no more than are missing
pub record MayPage (s : State) (rows : List Row) : Type 0 where
  pub no_fault : fault_in s.log ≡ None
  pub room : length (rows_in s.log) < s.count
  pub fits : length (rows_in s.log) + length rows ≤ s.count

-- it may be told that a list was replaced: without an object where no row fault stands and a row is missing, else of an object that
-- is asked and not settled yet
abbrev pub MayMove : State → Option ℕ → Type 0
MayMove s None = (fault_in s.log ≡ None) × (length (rows_in s.log) < s.count)
MayMove s (Some object) = asked_in s object ≡ Some Pending

-- an event may come: a depth is one of the list, an ask is asked already or there is room for it, a page fits, what is settled is
-- asked and not settled yet, and a move is one to another version
abbrev pub MayCome : State → Event → Type 0
MayCome s (Want depth) = (1 ≤ depth) × (depth ≤ s.count)
MayCome s (Ask object) = asked_in s object ≡ None → length s.asks < s.count
MayCome s (Page rows) = MayPage s rows
MayCome s (Grade object grade) = asked_in s object ≡ Some Pending
MayCome s (Miss object) = asked_in s object ≡ Some Pending
MayCome s (Fail what) = Unit {0}
MayCome s (Move object had now) = (had ≢ now) × MayMove s object

-- an event was broken exactly where it set a row fault
abbrev pub IsApplied : State → State → Applied → Type 0
IsApplied before after Done = fault_in after.log ≡ fault_in before.log
IsApplied before after Broken = (fault_in before.log ≡ None) × (fault : SourceFault) × (fault_in after.log ≡ Some fault)

-- what a want and an ask keep: the log and the tally
abbrev pub KeepsLog : Event → State → State → Type 0
KeepsLog (Want depth) before after = AreFactsKept (facts_of before) (facts_of after)
KeepsLog (Ask object) before after = AreFactsKept (facts_of before) (facts_of after)
KeepsLog (Page rows) before after = Unit {0}
KeepsLog (Grade object grade) before after = Unit {0}
KeepsLog (Miss object) before after = Unit {0}
KeepsLog (Fail what) before after = Unit {0}
KeepsLog (Move object had now) before after = Unit {0}
