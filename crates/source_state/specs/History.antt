-- What a history, the list of the events of a source, says of it: by filters over the history, with no running number.
use Rattle.std.specs.Prelude.{◌≡◌, ◌++◌, ℕ, min, max, Bool, true, false, Option, Some, None, List, [], ◌∷◌, length, drop, map, fold, filter, filter_map, is_some, unwrap_or, if◌then◌else◌}
use Rattle.std.specs.List.{cons_option, flat_map}
use Rattle.std.specs.Option.{option_or}
use Rattle.ranked_list.specs.declared.row.Row.{Row}
use Rattle.turn_lock.specs.declared.facts.Tally.{Tally}
use Rattle.topk_theory.specs.Transcript.{each_once}
use Rattle.topk_theory.specs.Bounds.{grade_among}
use Rattle.source_state.specs.declared.ask.Ask.{Ask as Asking}
use Rattle.source_state.specs.declared.entry.LogEntry.{LogEntry}
use Rattle.source_state.specs.declared.entry.LogEntry.TheVariants.{Kept, Settled, Fault}
use Rattle.source_state.specs.declared.entry.Settling.TheVariants.{Bad, Missed}
use Rattle.source_api.specs.declared.source.FailKind.{FailKind}
use Rattle.source_api.specs.declared.source.FailKind.TheVariants.{Failed, Garbled, Memory}
use Rattle.source_state.specs.declared.entry.SourceFault.{SourceFault}
use Rattle.source_state.specs.declared.entry.SourceFault.TheVariants.{ShortList, Moved}
use Rattle.source_state.specs.declared.event.Event.{Event}
use Rattle.source_state.specs.declared.event.Event.TheVariants.{Want, Ask, Page, Grade, Miss, Fail, Move}
use Rattle.source_state.specs.Log.{first_of, rows_in, settling_in, fault_in}
use Rattle.source_state.specs.State.{State, row_fault, settle, last_count}
use Rattle.source_state.specs.Events.{after, MayCome}

-- the last member of a list, if it has one
abbrev pub last_of : {X : Type 0} → List X → Option X
last_of [] = None
last_of (x ∷ []) = Some x
last_of (x ∷ y ∷ xs) = last_of (y ∷ xs)

-- the depth that an event wants, the object that it asks for, the kind of fail that it is
abbrev pub depth_wanted : Event → Option ℕ
depth_wanted (Want depth) = Some depth
depth_wanted _ = None

abbrev pub object_asked : Event → Option ℕ
object_asked (Ask object) = Some object
object_asked _ = None

abbrev pub kind_failed : Event → Option FailKind
kind_failed (Fail what) = Some what
kind_failed _ = None

-- the rows that an event brings
abbrev pub rows_brought : Event → List Row
rows_brought (Page rows) = rows
rows_brought _ = []

-- the greatest depth that was wanted, or 0; the objects that were asked, each where it was asked first
abbrev pub greatest_want : List Event → ℕ
greatest_want E = fold max 0 (filter_map depth_wanted E)

abbrev pub objects_asked : List Event → List ℕ
objects_asked E = each_once (filter_map object_asked E)

-- the kinds of the fails, in their order; how many are of one kind, up to the last count; the tally of all kinds
abbrev pub fails_told : List Event → List FailKind
fails_told E = filter_map kind_failed E

abbrev pub is_failed : FailKind → Bool
is_failed Failed = true
is_failed _ = false

abbrev pub is_garbled : FailKind → Bool
is_garbled Garbled = true
is_garbled _ = false

abbrev pub is_memory : FailKind → Bool
is_memory Memory = true
is_memory _ = false

abbrev pub tally_told : List Event → Tally
tally_told E = record {
  failed = min (length (filter is_failed (fails_told E))) last_count;
  garbled = min (length (filter is_garbled (fails_told E))) last_count;
  memory = min (length (filter is_memory (fails_told E))) last_count;
}

-- whether an event begins a pause (a fail) or ends it (a want, an ask); whether the last such event begins one
abbrev pub pauses : Event → Option Bool
pauses (Want depth) = Some false
pauses (Ask object) = Some false
pauses (Fail what) = Some true
pauses _ = None

abbrev pub is_paused : List Event → Bool
is_paused E = unwrap_or (last_of (filter_map pauses E)) false

-- the state after a history, event by event; a history may come where each event may come in the state after those before it
abbrev pub replayed : State → List Event → State
replayed s [] = s
replayed s (event ∷ E) = replayed (after s event) E

abbrev pub AllMayCome : State → List Event → Type 0
AllMayCome s [] = Unit {0}
AllMayCome s (event ∷ E) = MayCome s event × AllMayCome (after s event) E

-- an event and the events before it; those of a history
pub record Moment : Type 0 where
  pub before : List Event
  pub event : Event

abbrev pub moments_after : List Event → List Event → List Moment
moments_after before [] = []
moments_after before (event ∷ E) = record { before = before; event = event } ∷ moments_after (before ++ event ∷ []) E

abbrev pub moments : List Event → List Moment
moments E = moments_after [] E

-- what a grade, a miss and a move of an object settle, where `kept` tells which rows a history keeps: a grade against the rows kept
-- before it
abbrev pub settling_by : (List Event → List Row) → Moment → Event → Option LogEntry
settling_by kept moment (Grade object grade) = Some (Settled object (settle (kept moment.before) object grade))
settling_by kept moment (Miss object) = Some (Settled object Missed)
settling_by kept moment (Move (Some object) had now) = Some (Settled object (Bad (Moved had now)))
settling_by kept moment _ = None

abbrev pub settlings : (List Event → List Row) → List Event → List LogEntry
settlings kept E = filter_map (λ moment. settling_by kept moment moment.event) (moments E)

-- a row that came, the rows that came before it, and the events before its page
pub record Came : Type 0 where
  pub row : Row
  pub above : List Row
  pub before : List Event

abbrev pub page_came : List Row → List Event → List Row → List Came
page_came above before [] = []
page_came above before (row ∷ rows) = record { row = row; above = above; before = before } ∷ page_came (above ++ row ∷ []) before rows

abbrev pub came_after : List Row → List Event → List Event → List Came
came_after above before [] = []
came_after above before (event ∷ E) = page_came above before (rows_brought event) ++ came_after (above ++ rows_brought event) (before ++ event ∷ []) E

-- all rows that came
abbrev pub came : List Event → List Came
came E = came_after [] [] E

-- the asks of a history as they stand under these rows
abbrev pub asks_told : (List Event → List Row) → List Row → List Event → List Asking
asks_told kept rows E =
    map (λ object. record { object = object; settling = settling_in (settlings kept E) object; is_held = is_some (grade_among rows object) })
    (objects_asked E)

-- what is at fault with a row that came, against the rows before it and what was asked and settled before its page
abbrev pub fault_came : (List Event → List Row) → Came → Option SourceFault
fault_came kept one = row_fault one.above (asks_told kept one.above one.before) one.row

-- the members of a list before the first that passes
abbrev pub before_first : {X : Type 0} → (X → Bool) → List X → List X
before_first test [] = []
before_first test (x ∷ xs) = if test x then [] else x ∷ before_first test xs

-- the rows that came before the first at fault
abbrev pub rows_told : (List Event → List Row) → List Event → List Row
rows_told kept E = map (λ one. one.row) (before_first (λ one. is_some (fault_came kept one)) (came E))

-- what ends the rows with none at fault: a page without rows, which makes a list of `count` objects short, or a move without an object
abbrev pub ended_by : ℕ → (List Event → List Row) → Moment → Event → Option SourceFault
ended_by count kept moment (Page []) = Some (ShortList count (length (kept moment.before)))
ended_by count kept moment (Move None had now) = Some (Moved had now)
ended_by count kept moment _ = None

-- the fault of the first row at fault, or that the list is short or was replaced
abbrev pub fault_told : ℕ → (List Event → List Row) → List Event → Option SourceFault
fault_told count kept E =
    option_or (first_of (filter_map (fault_came kept) (came E)))
    (first_of (filter_map (λ moment. ended_by count kept moment moment.event) (moments E)))

-- the entry of the row fault, where one is set that wasn't before
abbrev pub fault_added : Option SourceFault → Option SourceFault → List LogEntry
fault_added None None = []
fault_added None (Some fault) = Fault fault ∷ []
fault_added (Some had) now = []

-- entries by what was told before an event and is told with it: the further rows, what the event settles, and the row fault
abbrev pub entries_by : List Row → List Row → Option LogEntry → Option SourceFault → Option SourceFault → List LogEntry
entries_by rows more settled had now = map (λ row. Kept row) (drop (length rows) more) ++ (cons_option settled [] ++ fault_added had now)

-- what an event adds to the log, and the log of a history: what its events add, in the order in which they came
abbrev pub entries_told : (List Event → List Row) → ℕ → Moment → List LogEntry
entries_told kept count m =
    entries_by (rows_told kept m.before) (rows_told kept (m.before ++ m.event ∷ [])) (settling_by kept m m.event)
    (fault_told count kept m.before) (fault_told count kept (m.before ++ m.event ∷ []))

abbrev pub log_told : (List Event → List Row) → ℕ → List Event → List LogEntry
log_told kept count E = flat_map (entries_told kept count) (moments E)

-- the rows that a history keeps
abbrev pub kept_by : State → List Event → List Row
kept_by start E = rows_in (replayed start E).log

-- a state is what a history says: its wants, asks, fails and pause, its rows, their fault, and what each object settled as
pub record IsByHistory (kept : List Event → List Row) (count : ℕ) (E : List Event) (s : State) : Type 0 where
  pub want : s.want ≡ greatest_want E
  pub asks : s.asks ≡ objects_asked E
  pub tally : s.tally ≡ tally_told E
  pub last_fail : s.last_fail ≡ last_of (fails_told E)
  pub paused : s.paused ≡ is_paused E
  pub rows : rows_in s.log ≡ rows_told kept E
  pub fault : fault_in s.log ≡ fault_told count kept E
  pub settled : (object : ℕ) → settling_in s.log object ≡ settling_in (settlings kept E) object
