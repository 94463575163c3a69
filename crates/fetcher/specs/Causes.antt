-- What a log has of what a source gave: each row that it keeps, and the cause of each fault that it tells.
use Rattle.std.specs.Prelude.{◌≡◌, ◌≢◌, ◌≤◌, ◌<◌, ◌+◌, ◌⊎◌, ℕ, None, Some, List, [], ◌∷◌, ◌++◌, length, Contains}
use Rattle.ranked_list.specs.declared.row.Row.{Row}
use Rattle.ranked_list.specs.Table.{objects, top_grade}
use Rattle.topk_theory.specs.Transcript.{Begins, last_grade}
use Rattle.source_state.specs.declared.entry.LogEntry.{LogEntry}
use Rattle.source_state.specs.declared.entry.Settling.TheVariants.{Graded, Bad}
use Rattle.source_state.specs.declared.entry.SourceFault.{SourceFault}
use Rattle.source_state.specs.declared.entry.SourceFault.TheVariants.{OutOfOrder, TooHigh, Repeated, Clash, Above, ShortList, Moved}
use Rattle.source_state.specs.Log.{rows_in, settling_in, fault_in}

-- the grade of a row is above that of the last of these rows
pub record Rises (rows : List Row) (row : Row) (place above below : ℕ) : Type 0 where
  pub at : place ≡ length rows + 1
  pub last : above ≡ last_grade top_grade rows
  pub is : below ≡ row.grade
  pub rise : above < below
  pub capped : below ≤ top_grade

-- the grade of the row behind these rows is above the greatest that there is
pub record IsTooHigh (rows : List Row) (row : Row) (place grade : ℕ) : Type 0 where
  pub at : place ≡ length rows + 1
  pub is : grade ≡ row.grade
  pub high : top_grade < grade

-- the object of the row behind these rows is that of one of them
pub record Repeats (rows : List Row) (row : Row) (object place : ℕ) : Type 0 where
  pub at : place ≡ length rows + 1
  pub is : object ≡ row.object
  pub before : Contains (objects rows) object

-- random access gave the object of a row another grade
pub record ClashesWith (log : List LogEntry) (row : Row) (object sorted random : ℕ) : Type 0 where
  pub is : row ≡ record { object = object; grade = sorted }
  pub graded : settling_in log object ≡ Some (Graded random)
  pub apart : sorted ≢ random

-- random access gave an object that the rows don't hold a grade above that of a row
pub record IsUnder (log : List LogEntry) (row : Row) (object grade bottom : ℕ) : Type 0 where
  pub is : bottom ≡ row.grade
  pub graded : settling_in log object ≡ Some (Graded grade)
  pub absent : ¬ Contains (objects (rows_in log)) object
  pub under : bottom < grade

-- what is at fault with a row behind those that a log keeps
abbrev pub IsFaultOfRow : List LogEntry → Row → SourceFault → Type 0
IsFaultOfRow log row (OutOfOrder place above below) = Rises (rows_in log) row place above below
IsFaultOfRow log row (TooHigh place grade) = IsTooHigh (rows_in log) row place grade
IsFaultOfRow log row (Repeated object place) = Repeats (rows_in log) row object place
IsFaultOfRow log row (Clash object sorted random) = ClashesWith log row object sorted random
IsFaultOfRow log row (Above object grade bottom) = IsUnder log row object grade bottom
IsFaultOfRow log row (ShortList stated got) = ⊥
IsFaultOfRow log row (Moved had now) = ⊥

-- of these rows a log keeps the first ones, and the next one is at fault
pub record HasFaultyRow (given : List Row) (log : List LogEntry) (fault : SourceFault) : Type 0 where
  pub row : Row
  pub next : Begins (rows_in log ++ row ∷ []) given
  pub faulty : IsFaultOfRow log row fault

-- these rows are all, the log keeps them, and they are fewer than are stated
pub record IsShort (count : ℕ) (given : List Row) (log : List LogEntry) (fault : SourceFault) : Type 0 where
  pub is : fault ≡ ShortList count (length given)
  pub all : rows_in log ≡ given
  pub less : length given < count

-- the list was replaced by one of another version, before as many rows came as are stated
pub record IsReplaced (count : ℕ) (log : List LogEntry) (fault : SourceFault) : Type 0 where
  pub had : ℕ
  pub now : ℕ
  pub is : fault ≡ Moved had now
  pub differ : had ≢ now
  pub less : length (rows_in log) < count

-- the row fault of a log over these rows of `count` stated ones: that of the first row that it doesn't keep, that they are too few, or that
-- the list was replaced
abbrev pub IsFaultOf : ℕ → List Row → List LogEntry → SourceFault → Type 0
IsFaultOf count given log fault = IsShort count given log fault ⊎ HasFaultyRow given log fault ⊎ IsReplaced count log fault

-- a grade is above that of the last of some first rows, which don't hold its object; of no rows the last grade is the greatest that there is
pub record IsAboveFront (rows : List Row) (object grade bottom : ℕ) : Type 0 where
  pub front : List Row
  pub begins : Begins front rows
  pub absent : ¬ Contains (objects front) object
  pub last : bottom ≡ last_grade top_grade front
  pub above : bottom < grade

-- what is at fault with the grade of an object: one of the rows has another one, it is above the rows that were there, or the list was
-- replaced by one of another version
abbrev pub IsFaultOfGrade : List Row → ℕ → SourceFault → Type 0
IsFaultOfGrade rows object (Clash other sorted random) = (other ≡ object) × Contains rows (record { object = object; grade = sorted }) × (sorted ≢ random)
IsFaultOfGrade rows object (Above other grade bottom) = (other ≡ object) × IsAboveFront rows object grade bottom
IsFaultOfGrade rows object (Moved had now) = had ≢ now
IsFaultOfGrade _ _ _ = ⊥

-- a log comes of the rows that a source of `count` stated rows gave: it keeps the first ones, and all of them unless a row fault stands that is
-- no move; a row fault and each bad grade have their cause
pub record ComesOf (count : ℕ) (given : List Row) (log : List LogEntry) : Type 0 where
  pub rows : Begins (rows_in log) given
  pub all : fault_in log ≡ None → rows_in log ≡ given
  pub moved : (had now : ℕ) → fault_in log ≡ Some (Moved had now) → rows_in log ≡ given
  pub fault : (fault : SourceFault) → fault_in log ≡ Some fault → IsFaultOf count given log fault
  pub bad : (object : ℕ) (fault : SourceFault) → settling_in log object ≡ Some (Bad fault) → IsFaultOfGrade (rows_in log) object fault

-- a log comes of so many rows that a source gave
pub record HasGiven (number count : ℕ) (log : List LogEntry) : Type 0 where
  pub given : List Row
  pub many : length given ≡ number
  pub comes : ComesOf count given log
