-- What a pass remembers of a source: rows that it copied, and grades that were settled.
use Rattle.std.specs.Prelude.{◌≡◌, ◌≢◌, ◌-◌, ◌^◌, ℕ, Some, List, [], All, Contains}
use Rattle.ranked_list.specs.declared.row.Row.{Row}
use Rattle.ranked_list.specs.declared.need.Need.{Need}
use Rattle.ranked_list.specs.declared.need.Need.TheVariants as need
use Rattle.source_state.specs.declared.entry.LogEntry.{LogEntry}
use Rattle.source_state.specs.declared.entry.Settling.TheVariants.{Graded}
use Rattle.source_state.specs.declared.look.Look.{Look}
use Rattle.source_state.specs.declared.look.Look.TheVariants as look
use Rattle.source_state.specs.Log.{rows_in, settling_in}
use Rattle.source_pool.specs.declared.remembered.Remembered.{Remembered}
use Rattle.source_pool.specs.Windows.{no_rows, row_held, IsWindowOf}

-- nothing is remembered
abbrev pub nothing : Remembered
nothing = record { rows = no_rows; grades = [] }

-- the number of no object, at a place where no grade is remembered
abbrev pub nobody : ℕ
nobody = 2 ^ 32 - 1

-- this grade is remembered of an object, and of the object that a need names
abbrev pub IsKept : List Row → ℕ → ℕ → Type 0
IsKept grades object grade = (object ≢ nobody) × Contains grades (record { object = object; grade = grade })

abbrev pub IsRecalled : List Row → Need → ℕ → Type 0
IsRecalled grades (need.Row list depth) grade = ⊥
IsRecalled grades (need.Grade list object) grade = IsKept grades object grade
IsRecalled grades need.Done grade = ⊥

-- what is remembered answers a need so: by the needed row, or by the grade of the needed object
abbrev pub IsHeld : Remembered → Need → Look → Type 0
IsHeld remembered n (look.Row row) = row_held remembered.rows n ≡ Some row
IsHeld remembered n (look.Grade grade) = IsRecalled remembered.grades n grade
IsHeld remembered n look.NotYet = ⊥
IsHeld remembered n (look.Fault fault) = ⊥

-- the log settled an object so
abbrev pub IsSettled : List LogEntry → Row → Type 0
IsSettled log row = row.object ≢ nobody → settling_in log row.object ≡ Some (Graded row.grade)

-- each grade is what a log settled its object as
pub record AreSettled (log : List LogEntry) (grades : List Row) : Type 0 where
  pub each : All (IsSettled log) grades

-- what is remembered is of this log: rows at their depths, and grades that it settled
pub record Remembers (log : List LogEntry) (remembered : Remembered) : Type 0 where
  pub rows : IsWindowOf (rows_in log) remembered.rows
  pub grades : AreSettled log remembered.grades
