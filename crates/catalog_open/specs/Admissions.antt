-- What query lines come to before they run, in their order.
use Rattle.std.specs.Prelude.{◌≡◌, ◌+◌, ℕ, List, [], ◌∷◌, Option, Some, None}
use Rattle.query_admission.specs.Ready.{Ready}
use Rattle.query_admission.specs.View.{View}
use Rattle.query_admission.specs.Causes.{line_over}
use Rattle.query_admission.specs.Admission.{IsAdmitted}
use Rattle.query_admission.specs.declared.line_outcome.LineOutcome.{LineOutcome}
use Rattle.line_outcome.specs.LineOutcomes.{IsLineRefused}

-- each of some lines, numbered from this number on, has the outcome that it is refused, or none yet, and its query is ready: the next of these
abbrev pub AreAdmitted : View → ℕ → List (List ℕ) → List (Option LineOutcome) → List Ready → Type 0
AreAdmitted view number [] [] readies = readies ≡ []
AreAdmitted view number (bytes ∷ lines) (Some o ∷ outcomes) readies =
    IsLineRefused view number bytes o × AreAdmitted view (number + 1) lines outcomes readies
AreAdmitted view number (bytes ∷ lines) (None ∷ outcomes) (ready ∷ readies) =
    IsAdmitted (line_over view number bytes) ready × AreAdmitted view (number + 1) lines outcomes readies
AreAdmitted _ _ _ _ _ = ⊥
