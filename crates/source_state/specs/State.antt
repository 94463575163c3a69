-- What contracts see of the state of a source, what its readers tell of it, and which row may not follow.
use Rattle.std.specs.Prelude.{◌≡◌, ◌≢◌, ◌≤◌, ◌==◌, ◌+◌, ◌-◌, ◌^◌, ℕ, min, Bool, true, false, Option, Some, None, List, [], length, map, is_some, nat_lt, All, AllPairs, Contains, if◌then◌else◌}
use Rattle.std.specs.List.{slice_index_or}
use Rattle.std.specs.Option.{option_map}
use Rattle.ranked_list.specs.declared.row.Row.{Row}
use Rattle.ranked_list.specs.Table.{IsRanked, top_grade}
use Rattle.turn_lock.specs.declared.facts.Tally.{Tally}
use Rattle.turn_lock.specs.declared.facts.Facts.{Facts}
use Rattle.topk_theory.specs.Transcript.{last_grade}
use Rattle.topk_theory.specs.Bounds.{grade_among}
use Rattle.source_state.specs.declared.ask.Ask.{Ask}
use Rattle.source_state.specs.declared.entry.LogEntry.{LogEntry}
use Rattle.source_state.specs.declared.entry.Settling.{Settling}
use Rattle.source_state.specs.declared.entry.Settling.TheVariants.{Graded, Bad, Missed}
use Rattle.source_state.specs.declared.entry.Asked.{Asked}
use Rattle.source_state.specs.declared.entry.Asked.TheVariants as became
use Rattle.source_api.specs.declared.source.FailKind.{FailKind}
use Rattle.source_state.specs.declared.entry.SourceFault.{SourceFault}
use Rattle.source_state.specs.declared.entry.SourceFault.TheVariants.{OutOfOrder, TooHigh, Repeated, Clash, Above}
use Rattle.source_state.specs.Log.{rows_in, settled_in, graded_in, faults_in}
use Rattle.source_state.specs.Asks.{ask_in, ask_of, good_grade, first_above, first_due}
use Rattle.topk_base.specs.declared.TheConstants.{MAX_OBJECTS}

-- the number of the list and how many objects it has, the greatest depth that was wanted, the log, the objects that were asked in
-- their order, how many fails of each kind came, the kind of the last one, and whether the state waits after it
pub record State : Type 0 where
  pub list : ℕ
  pub count : ℕ
  pub want : ℕ
  pub log : List LogEntry
  pub asks : List ℕ
  pub tally : Tally
  pub last_fail : Option FailKind
  pub paused : Bool

-- the state of a source before any event
abbrev pub opened : ℕ → ℕ → State
opened list count = record {
  list = list;
  count = count;
  want = 0;
  log = [];
  asks = [];
  tally = record { failed = 0; garbled = 0; memory = 0 };
  last_fail = None;
  paused = false;
}

-- the state of the source with this number; one that isn't there has no objects and no events
abbrev pub state_at : List State → ℕ → State
state_at states source = slice_index_or states source (opened 0 0)

-- the asks as they stand
abbrev pub asks_of : State → List Ask
asks_of s = map (ask_in s.log) s.asks

-- what became of an ask
abbrev pub asked_as : Option Settling → Asked
asked_as None = became.Pending
asked_as (Some (Graded grade)) = became.Graded grade
asked_as (Some (Bad fault)) = became.Bad fault
asked_as (Some Missed) = became.Missed

-- what became of the ask of an object, None where it wasn't asked
abbrev pub asked_in : State → ℕ → Option Asked
asked_in s object = option_map (λ ask. asked_as ask.settling) (ask_of (asks_of s) object)

-- the first object, in the order of asking, whose ask is due
abbrev pub first_pending : State → Option ℕ
first_pending s = option_map (λ ask. ask.object) (first_due (asks_of s))

-- the greatest number of 64 bits, at which counts stand still
abbrev pub last_count : ℕ
last_count = 2 ^ 64 - 1

-- how many fails came, of all kinds
abbrev pub fails_of : Tally → ℕ
fails_of tally = min (min (tally.failed + tally.garbled) last_count + tally.memory) last_count

-- the fault of a row whose object was graded otherwise, else what follows
abbrev pub clash_or : Option ℕ → Row → Option SourceFault → Option SourceFault
clash_or None row rest = rest
clash_or (Some random) row rest = if random == row.grade then rest else Some (Clash row.object row.grade random)

-- the fault of a row under a good grade that the rows don't hold
abbrev pub above_fault : ℕ → Row → SourceFault
above_fault bottom row = Above row.object row.grade bottom

-- the good grade of an ask, if there is one
abbrev pub grade_asked : Option Ask → Option ℕ
grade_asked None = None
grade_asked (Some ask) = good_grade ask.settling

-- what is at fault with a row by the grades that were asked for: its object has another one, or another one that the rows don't hold is above it
abbrev pub fault_by_grades : List Ask → Row → Option SourceFault
fault_by_grades asks row = clash_or (grade_asked (ask_of asks row.object)) row (option_map (above_fault row.grade) (first_above row.grade asks))

-- what is at fault with a row under these rows and after these asks, by the first test that holds: its grade is above the greatest,
-- or above that of the row over it; its object came before, or was graded otherwise; or some good grade that the rows don't hold is above it
abbrev pub row_fault : List Row → List Ask → Row → Option SourceFault
row_fault rows asks row =
    if nat_lt top_grade row.grade then Some (TooHigh (length rows + 1) row.grade)
    else if nat_lt (last_grade top_grade rows) row.grade then Some (OutOfOrder (length rows + 1) (last_grade top_grade rows) row.grade)
    else if is_some (grade_among rows row.object) then Some (Repeated row.object (length rows + 1))
    else fault_by_grades asks row

-- what the grade of an object settles as, by the grade that the rows give it or their last one
abbrev pub settle_by : Option ℕ → ℕ → ℕ → ℕ → Settling
settle_by None bottom object grade = if nat_lt bottom grade then Bad (Above object grade bottom) else Graded grade
settle_by (Some sorted) bottom object grade = if sorted == grade then Graded grade else Bad (Clash object sorted grade)

-- what the grade of an object settles as under these rows: it clashes with another grade there, it is above the last row's, or it is good
abbrev pub settle : List Row → ℕ → ℕ → Settling
settle rows object grade = settle_by (grade_among rows object) (last_grade top_grade rows) object grade

-- a good grade goes with the rows: where they hold its object it has the same grade there, else no row has a smaller grade
pub record GoesWith (rows : List Row) (graded : Row) : Type 0 where
  pub same : (grade : ℕ) → grade_among rows graded.object ≡ Some grade → grade ≡ graded.grade
  pub below : grade_among rows graded.object ≡ None → All (λ (row : Row). graded.grade ≤ row.grade) rows
  pub capped : graded.grade ≤ top_grade

-- an object may settle so: a good grade goes with the rows
abbrev pub SettlesWell : List Row → ℕ → Settling → Type 0
SettlesWell rows object (Graded grade) = GoesWith rows (record { object = object; grade = grade })
SettlesWell rows object (Bad fault) = Unit {0}
SettlesWell rows object Missed = Unit {0}

-- a log is sound: its rows are a ranked list of so many objects at most, each good grade goes with them, no object is settled
-- twice and each settled one was asked, and it has one row fault at most
pub record IsSoundLog (count : ℕ) (asks : List ℕ) (log : List LogEntry) : Type 0 where
  pub ranked : IsRanked (rows_in log)
  pub fits : length (rows_in log) ≤ count
  pub good : All (GoesWith (rows_in log)) (graded_in log)
  pub once : AllPairs (λ (one : ℕ) (other : ℕ). one ≢ other) (settled_in log)
  pub asked : (object : ℕ) → Contains (settled_in log) object → Contains asks object
  pub one_fault : length (faults_in log) ≤ 1

-- no number of a tally is above the last count
pub record IsCounted (tally : Tally) : Type 0 where
  pub failed : tally.failed ≤ last_count
  pub garbled : tally.garbled ≤ last_count
  pub memory : tally.memory ≤ last_count

-- a state is sound: its log is, the asked objects are distinct, and its numbers are within their limits
pub record IsSound (s : State) : Type 0 where
  pub log : IsSoundLog s.count s.asks s.log
  pub distinct : AllPairs (λ (one : ℕ) (other : ℕ). one ≢ other) s.asks
  pub fits : length s.asks ≤ s.count
  pub small : s.count ≤ MAX_OBJECTS
  pub want : s.want ≤ s.count
  pub tally : IsCounted s.tally

-- what is due: nothing while the state is paused, a grade where an ask is due, else rows
abbrev pub due_by : Bool → Option ℕ → ℕ
due_by true pending = 0
due_by false None = 2
due_by false (Some object) = 1

-- what a lock remembers of the state
abbrev pub facts_of : State → Facts LogEntry
facts_of s = record { name = (s.list, s.count); log = s.log; asks = s.asks; mark = s.want; tally = s.tally; due = due_by s.paused (first_pending s) }
