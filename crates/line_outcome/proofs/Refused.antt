-- A line that is refused.
use Rattle.std.proofs.Common.{◌≡◌, ℕ, List, [], Option, sym, ap, subst}
use Rattle.cert_text.specs.declared.outcome.Outcome.TheVariants.{Refused as IsRefusedNow}
use Rattle.cert_text.specs.declared.refusal.Refusal.{Refusal}
use Rattle.query_text.specs.declared.query.Query.{Query}
use Rattle.query_admission.specs.View.{View}
use Rattle.query_admission.specs.Causes.{admission_causes, line_over}
use Rattle.query_admission.specs.Admission.{RefusesLine}
use Rattle.query_admission.specs.declared.line_outcome.LineOutcome.{LineOutcome}
use Rattle.line_outcome.specs.LineOutcomes.{IsLineRefused}

pub refused_here : (view : View) (number : ℕ) (bytes : List ℕ) (o : LineOutcome) (refusal : Refusal) (query : Option Query)
    → RefusesLine admission_causes (line_over view number bytes) refusal query
    → o ≡ record { query = query; count = 0; versions = []; outcome = IsRefusedNow refusal } → IsLineRefused view number bytes o
refused_here view number bytes o refusal query is e = record {
  refusal = refusal;
  outcome = ap (λ (p : LineOutcome). p.outcome) e;
  count = ap (λ (p : LineOutcome). p.count) e;
  refused = subst (RefusesLine admission_causes (line_over view number bytes) refusal) (sym (ap (λ (p : LineOutcome). p.query) e)) is;
}
