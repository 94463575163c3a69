-- What the answers that a log gives mean of its rows and settlings.
use Rattle.std.proofs.Common.{◌≡◌, ◌-◌, ℕ, Option, Some, None, List, ◌++◌, slice_get, Contains, refl, ap, ◌∙◌}
use Rattle.std.proofs.lemmas.List.Elements.{Contains-append_left, Contains-append_right}
use Rattle.ranked_list.specs.declared.row.Row.{Row}
use Rattle.ranked_list.specs.declared.need.Need.TheVariants as need
use Rattle.topk_theory.specs.Bounds.{grade_among}
use Rattle.topk_theory.proofs.AgreementRows.{grade_among_row}
use Rattle.source_state.specs.declared.entry.LogEntry.{LogEntry}
use Rattle.source_state.specs.declared.entry.Settling.{Settling}
use Rattle.source_state.specs.declared.entry.Settling.TheVariants.{Graded, Bad, Missed}
use Rattle.source_state.specs.declared.look.Look.TheVariants as look
use Rattle.source_state.specs.Log.{rows_in, graded_in, fault_in, settling_in}
use Rattle.source_state.specs.State.{asked_as}
use Rattle.source_state.specs.Looking.{grade_or}
use Rattle.source_state.proofs.LogLaws.{settling_graded}
use Rattle.source_state.proofs.LookLaws.{held_there, row_there, no_row, no_grade}
use Rattle.source_pool.specs.Looks.{said_in}

pub said_row : (log : List LogEntry) (list depth : ℕ) (row : Row) → said_in log (need.Row list depth) ≡ Some (look.Row row)
    → slice_get (rows_in log) (depth - 1) ≡ Some row
said_row log list depth row e = row_there (slice_get (rows_in log) (depth - 1)) (fault_in log) row e

pub said_known : (log : List LogEntry) (list object grade : ℕ) → said_in log (need.Grade list object) ≡ Some (look.Grade grade)
    → Contains (rows_in log ++ graded_in log) (record { object = object; grade = grade })
said_known log list object grade e = by_settling (settling_in log object) refl e
  where
    by_settling : (o : Option Settling) → settling_in log object ≡ o
        → grade_or object (Some (asked_as o)) (grade_among (rows_in log) object) ≡ Some (look.Grade grade)
        → Contains (rows_in log ++ graded_in log) (record { object = object; grade = grade })
    by_settling None is e = Contains-append_left (rows_in log) (graded_in log) _ (grade_among_row (rows_in log) object grade (held_there (grade_among (rows_in log) object) grade e))
    by_settling (Some (Graded one)) is e =
        let same : one ≡ grade = cc in
        Contains-append_right (rows_in log) (graded_in log) _ (settling_graded log object grade (is ∙ ap (λ g. Some (Graded g)) same))
    by_settling (Some (Bad fault)) is e = absurd (cc)
    by_settling (Some Missed) is e = absurd (cc)

pub unsaid_row : (log : List LogEntry) (list depth : ℕ) → said_in log (need.Row list depth) ≡ None
    → (slice_get (rows_in log) (depth - 1) ≡ None) × (fault_in log ≡ None)
unsaid_row log list depth e = no_row (slice_get (rows_in log) (depth - 1)) (fault_in log) e

pub unsaid_grade : (log : List LogEntry) (list object : ℕ) → said_in log (need.Grade list object) ≡ None
    → (settling_in log object ≡ None) × (grade_among (rows_in log) object ≡ None)
unsaid_grade log list object e = no_grade object (settling_in log object) (grade_among (rows_in log) object) e
