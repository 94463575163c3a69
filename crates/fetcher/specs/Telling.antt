-- What a log tells of a list that the source tells.
use Rattle.std.specs.Prelude.{◌≡◌, ◌≢◌, ℕ, Some, List, Contains}
use Rattle.ranked_list.specs.declared.row.Row.{Row}
use Rattle.ranked_list.specs.Table.{objects}
use Rattle.topk_theory.specs.Transcript.{Begins}
use Rattle.source_api.specs.Told.{HasEachOnce}
use Rattle.source_state.specs.declared.entry.LogEntry.{LogEntry}
use Rattle.source_state.specs.declared.entry.Settling.{Settling}
use Rattle.source_state.specs.declared.entry.Settling.TheVariants.{Graded, Bad, Missed}
use Rattle.source_state.specs.declared.entry.SourceFault.{SourceFault}
use Rattle.source_state.specs.declared.entry.SourceFault.TheVariants.{Above, Moved}
use Rattle.source_state.specs.Log.{rows_in, settling_in, fault_in}
use Rattle.fetcher.specs.Causes.{IsAboveFront, IsFaultOf}

-- a bad grade of an object is still the list's, and above those of the first rows of the list, or the list was replaced by one of another
-- version; nothing else can be at fault with it
abbrev pub IsGradeAtFault : List Row → ℕ → SourceFault → Type 0
IsGradeAtFault list object (Above other grade bottom) =
    (other ≡ object) × Contains list (record { object = object; grade = grade }) × IsAboveFront list object grade bottom
IsGradeAtFault list object (Moved had now) = had ≢ now
IsGradeAtFault _ _ _ = ⊥

-- what an object settled as is true of the list: a grade is the list's, and the list hasn't an object that was missed
abbrev pub IsTrueSettling : List Row → ℕ → Settling → Type 0
IsTrueSettling list object (Graded grade) = Contains list (record { object = object; grade = grade })
IsTrueSettling list object (Bad fault) = IsGradeAtFault list object fault
IsTrueSettling list object Missed = ¬ Contains (objects list) object

-- a log tells of the list alone, which has no object twice: its rows are how the list begins, what is settled is true of the list, and a row
-- fault is that of the list's next row, that the list has fewer rows than are stated, or that it was replaced
pub record TellsOf (list : List Row) (log : List LogEntry) : Type 0 where
  pub distinct : HasEachOnce list
  pub rows : Begins (rows_in log) list
  pub settled : (object : ℕ) (settling : Settling) → settling_in log object ≡ Some settling → IsTrueSettling list object settling
  pub fault : (fault : SourceFault) → fault_in log ≡ Some fault → (count : ℕ) × IsFaultOf count list log fault
