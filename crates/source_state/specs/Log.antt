-- The log of a source: the rows that were kept, what the asks settled as and the row fault, in the order in which they came.
use Rattle.std.specs.Prelude.{◌==◌, ℕ, Option, Some, None, List, [], ◌∷◌, filter_map, if◌then◌else◌}
use Rattle.ranked_list.specs.declared.row.Row.{Row}
use Rattle.source_state.specs.declared.entry.LogEntry.{LogEntry}
use Rattle.source_state.specs.declared.entry.LogEntry.TheVariants.{Kept, Settled, Fault}
use Rattle.source_state.specs.declared.entry.Settling.{Settling}
use Rattle.source_state.specs.declared.entry.Settling.TheVariants.{Graded}
use Rattle.source_state.specs.declared.entry.SourceFault.{SourceFault}

-- the first member of a list, if it has one
abbrev pub first_of : {X : Type 0} → List X → Option X
first_of [] = None
first_of (x ∷ xs) = Some x

-- the row that an entry keeps; the rows that a log keeps, in their order
abbrev pub kept_row : LogEntry → Option Row
kept_row (Kept row) = Some row
kept_row _ = None

abbrev pub rows_in : List LogEntry → List Row
rows_in log = filter_map kept_row log

-- what an entry settles an object as; what a log settles it as, if it does
abbrev pub settled_as : ℕ → LogEntry → Option Settling
settled_as object (Settled other settling) = if other == object then Some settling else None
settled_as _ _ = None

abbrev pub settling_in : List LogEntry → ℕ → Option Settling
settling_in log object = first_of (filter_map (settled_as object) log)

-- the object that an entry settles; those that a log settles, in their order
abbrev pub settled_object : LogEntry → Option ℕ
settled_object (Settled object settling) = Some object
settled_object _ = None

abbrev pub settled_in : List LogEntry → List ℕ
settled_in log = filter_map settled_object log

-- the good grade that a settling gives, as a row of its object; the good grades of a log, in their order
abbrev pub graded_as : ℕ → Settling → Option Row
graded_as object (Graded grade) = Some (record { object = object; grade = grade })
graded_as _ _ = None

abbrev pub graded_row : LogEntry → Option Row
graded_row (Settled object settling) = graded_as object settling
graded_row _ = None

abbrev pub graded_in : List LogEntry → List Row
graded_in log = filter_map graded_row log

-- the row fault that an entry sets; the row faults of a log, and the first of them
abbrev pub fault_set : LogEntry → Option SourceFault
fault_set (Fault fault) = Some fault
fault_set _ = None

abbrev pub faults_in : List LogEntry → List SourceFault
faults_in log = filter_map fault_set log

abbrev pub fault_in : List LogEntry → Option SourceFault
fault_in log = first_of (faults_in log)
