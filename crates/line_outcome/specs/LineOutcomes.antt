-- What a query line comes to, by what refused it before it ran, or by how its query ended.
use Rattle.std.specs.Prelude.{◌≡◌, ℕ, List, [], Option, Some}
use Rattle.query_text.specs.declared.query.Query.{Query}
use Rattle.cert_text.specs.declared.outcome.Outcome.TheVariants.{Refused}
use Rattle.cert_text.specs.declared.refusal.Refusal.{Refusal}
use Rattle.cert_text.specs.Outcome.{IsOutcome}
use Rattle.query_core.specs.declared.ready.Ready.{Ready as ReadyQuery}
use Rattle.query_admission.specs.View.{View}
use Rattle.query_admission.specs.Causes.{admission_causes, line_over}
use Rattle.query_admission.specs.Admission.{RefusesLine}
use Rattle.query_admission.specs.declared.line_outcome.LineOutcome.{LineOutcome}
use Rattle.query_run.specs.declared.ended.Ended.{Ended}
use Rattle.line_outcome.specs.Outcomes.{ended_outcome}

-- the outcome of a line that is refused before it runs, beside its query where that was read
abbrev pub line_refused : Refusal → Option Query → LineOutcome
line_refused refusal query = record { query = query; count = 0; versions = []; outcome = Refused refusal }

-- the line is refused before it runs, for the first of the causes that holds
pub record IsLineRefused (view : View) (number : ℕ) (bytes : List ℕ) (o : LineOutcome) : Type 0 where
  pub refusal : Refusal
  pub outcome : o.outcome ≡ Refused refusal
  pub count : o.count ≡ 0
  pub refused : RefusesLine admission_causes (line_over view number bytes) refusal o.query

-- the outcome of a line whose query was ready and ended so
pub record IsEndedAs (ready : ReadyQuery) (ended : Ended) (o : LineOutcome) : Type 0 where
  pub query : o.query ≡ Some ready.query
  pub count : o.count ≡ ready.count
  pub versions : o.versions ≡ ready.versions.items
  pub outcome : ended_outcome ended ≡ Some o.outcome

-- the outcome can be written: an answer with its query and the versions of its lists, a refusal with the query whose lists it names
abbrev pub CanBeWritten : LineOutcome → Type 0
CanBeWritten o = IsOutcome o.query o.versions o.outcome
