-- What a source of a made list is.
use Rattle.std.specs.Prelude.{◌≤◌, ℕ, List, [], Option, None, length, All, IfSome}
use Rattle.std.specs.List.{slice_index_or}
use Rattle.ranked_list.specs.declared.row.Row.{Row}
use Rattle.source_api.specs.declared.counts.Counts.{Counts}
use Rattle.source_api.specs.Calls.{Call}
use Rattle.source_api.specs.Told.{HasEachOnce, IsGrade, told_of}
use Rattle.source_api.specs.EachOnce.{told_law}
use Rattle.fetcher.specs.declared.slot.Slot.{Slot}
use Rattle.fetcher.specs.Metering.{nothing}

-- the rows, and how many rows and grades were given
pub record Held : Type 0 where
  pub rows : List Row
  pub rows_given : ℕ
  pub grades_given : ℕ

-- a source of a list of which nothing was asked yet
abbrev pub fresh : List Row → Held
fresh rows = record { rows = rows; rows_given = 0; grades_given = 0 }

-- a slot with a source, which has no feeder yet; a slot with a source of a list of which nothing was asked yet
abbrev pub new_slot : Held → Slot Held
new_slot source = record { source = source; feeder = None; fetched = nothing }

abbrev pub fresh_slot : List Row → Slot Held
fresh_slot rows = new_slot (fresh rows)

-- its rows are told where no object comes twice
abbrev pub told_rows : Held → Option (List Row)
told_rows held = told_of None [] held.rows

pub told_once : (held : Held) → IfSome (told_rows held) HasEachOnce
told_once held = told_law None [] held.rows

-- what it has counted: no call of it ever failed, was garbled or met a replaced list
abbrev pub counts_of : Held → Counts
counts_of held = record { faults = 0; garbles = 0; moves = 0; rows_given = held.rows_given; grades_given = held.grades_given }

-- it doesn't tell its calls
abbrev pub calls_of : Held → Option (List Call)
calls_of held = None

-- its list is never replaced, so that its version stays 0
abbrev pub version_of : Held → ℕ
version_of held = 0

-- no object's number is above the number of rows
abbrev pub AreSmall : List Row → Type 0
AreSmall rows = All (λ row. row.object ≤ length rows) rows

-- the grade that is kept at the number of an object, if there is one
abbrev pub grade_at : List (Option ℕ) → ℕ → Option ℕ
grade_at grades object = slice_index_or grades object None

-- what is kept at the number of each object is its grade in the list
abbrev pub AreGradesOf : List Row → List (Option ℕ) → Type 0
AreGradesOf rows grades = (object : ℕ) → IsGrade rows object (grade_at grades object)
