-- What is written of a line is proved.
use Rattle.std.proofs.Common.{◌≡◌, ℕ, List, Option, None, Some, sym, subst, option_map}
use Rattle.std.proofs.lemmas.Option.{same_Some}
use Rattle.cert_text.specs.declared.outcome.Outcome.{Outcome}
use Rattle.cert_text.specs.declared.outcome.Outcome.TheVariants.{Answered, Refused}
use Rattle.cert_text.specs.declared.refusal.Refusal.{Refusal}
use Rattle.cert_text.specs.Outcome.{outcome_text}
use Rattle.query_text.specs.declared.query.Query.{Query}
use Rattle.query_core.specs.declared.ready.Ready.{Ready as ReadyQuery}
use Rattle.query_core.specs.Claim.{IsProvedText}
use Rattle.query_core.proofs.ClaimLaws.{refusal_proved, answer_proved}
use Rattle.query_admission.specs.View.{View}
use Rattle.query_admission.specs.declared.line_outcome.LineOutcome.{LineOutcome}
use Rattle.query_run.specs.declared.ended.Ended.{Ended}
use Rattle.query_run.specs.declared.ended.Ended.TheVariants as ended
use Rattle.query_run.specs.Endings.{IsRight}
use Rattle.line_outcome.specs.Outcomes.{ended_outcome, core_refusal, look_refusal}
use Rattle.line_outcome.specs.LineOutcomes.{IsLineRefused, IsEndedAs}

-- the outcome of a line is proved, by its fields
abbrev IsProvedBy : ℕ → Option Query → ℕ → List ℕ → Outcome → Type 0
IsProvedBy line query count versions outcome = IsProvedText (outcome_text line query count versions outcome)

never : {outcome : Outcome} → None ≡ Some outcome → ⊥
never e = cc

refused_proved : (line : ℕ) (query : Option Query) (count : ℕ) (versions : List ℕ) (refusal : Refusal) (outcome : Outcome)
    → Some (Refused refusal) ≡ Some outcome → IsProvedBy line query count versions outcome
refused_proved line query count versions refusal outcome is =
    subst (IsProvedBy line query count versions) (same_Some (Refused refusal) outcome is) (refusal_proved line query count versions refusal)

looked_proved : (line : ℕ) (query : Option Query) (count : ℕ) (versions : List ℕ) (refusal : Option Refusal) (outcome : Outcome)
    → option_map Refused refusal ≡ Some outcome → IsProvedBy line query count versions outcome
looked_proved line query count versions None outcome is = absurd (never is)
looked_proved line query count versions (Some refusal) outcome is = refused_proved line query count versions refusal outcome is

by_ended : (ready : ReadyQuery) (e : Ended) (line : ℕ) (versions : List ℕ) (outcome : Outcome) → IsRight ready e → ended_outcome e ≡ Some outcome
    → IsProvedBy line (Some ready.query) ready.count versions outcome
by_ended ready (ended.Answered answer) line versions outcome right is =
    subst (IsProvedBy line (Some ready.query) ready.count versions) (same_Some (Answered answer) outcome is)
    (answer_proved ready.sorted.items line ready.query ready.count versions answer right)
by_ended ready (ended.Core fault) line versions outcome right is =
    refused_proved line (Some ready.query) ready.count versions (core_refusal fault) outcome is
by_ended ready (ended.Look list fault) line versions outcome right is =
    looked_proved line (Some ready.query) ready.count versions (look_refusal list fault) outcome is

-- of a line whose query ended rightly
pub ended_proved : (ready : ReadyQuery) (e : Ended) (line : ℕ) (o : LineOutcome) → IsRight ready e → IsEndedAs ready e o
    → IsProvedText (outcome_text line o.query o.count o.versions o.outcome)
ended_proved ready e line o right is =
    subst (λ query. IsProvedBy line query o.count o.versions o.outcome) (sym is.query)
    (subst (λ count. IsProvedBy line (Some ready.query) count o.versions o.outcome) (sym is.count) (by_ended ready e line o.versions o.outcome right is.outcome))

-- of a line that is refused before it runs
pub line_refused_proved : (view : View) (number : ℕ) (bytes : List ℕ) (line : ℕ) (o : LineOutcome) → IsLineRefused view number bytes o
    → IsProvedText (outcome_text line o.query o.count o.versions o.outcome)
line_refused_proved view number bytes line o is =
    subst (IsProvedBy line o.query o.count o.versions) (sym is.outcome) (refusal_proved line o.query o.count o.versions is.refusal)
