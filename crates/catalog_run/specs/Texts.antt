-- Texts of lines that are made before they are written.
use Rattle.std.specs.Prelude.{◌≡◌, ◌+◌, ℕ, Bool, false, List, Option, Some, length, nat_le, slice_get}
use Rattle.cert_text.specs.declared.outcome.Outcome.{Outcome}
use Rattle.cert_text.specs.declared.outcome.Outcome.TheVariants.{Answered, Refused}
use Rattle.query_admission.specs.declared.line_outcome.LineOutcome.{LineOutcome}
use Rattle.catalog_run.specs.Running.{line_text}
use Rattle.catalog_run.specs.declared.texts.TheConstants.{LONG_ANSWER}

-- where a line has a text made, it is that of its outcome; the first line has this number
abbrev pub AreTexts : ℕ → List LineOutcome → List (Option (List ℕ)) → Type 0
AreTexts first outcomes texts =
    (place : ℕ) (line : LineOutcome) (text : List ℕ) → slice_get outcomes place ≡ Some line → slice_get texts place ≡ Some (Some text)
    → text ≡ line_text (first + place) line

-- whether an outcome is an answer of many accesses
abbrev pub is_long : Outcome → Bool
is_long (Answered answer) = nat_le LONG_ANSWER (length answer.transcript.accesses)
is_long (Refused refusal) = false
