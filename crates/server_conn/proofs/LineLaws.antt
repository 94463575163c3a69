-- What becomes of a line, and that it can be written.
use Rattle.std.proofs.Common.{◌≡◌, ℕ, List, [], Some, inl, inr, Option, Result, Ok, Err, OnErr, refl, sym, subst}
use Rattle.source_pool.specs.declared.hold.Hold.{Hold}
use Rattle.query_text.specs.declared.query.Query.{Query}
use Rattle.cert_text.specs.declared.refusal.Refusal.{Refusal}
use Rattle.cert_text.specs.Outcome.{IsOutcome}
use Rattle.query_core.specs.declared.ready.Ready.{Ready}
use Rattle.query_admission.specs.View.{View}
use Rattle.query_admission.specs.Causes.{admission_causes, line_over}
use Rattle.query_admission.specs.Admission.{RefusesLine, IsAdmitted}
use Rattle.query_admission.specs.declared.line_outcome.LineOutcome.{LineOutcome}
use Rattle.query_admission.proofs.Becoming.{refused_writable}
use Rattle.query_run.specs.declared.ended.Ended.{Ended}
use Rattle.query_run.specs.Endings.{IsRight}
use Rattle.query_run.specs.Ran.{Ran, RanSome}
use Rattle.query_run.specs.Seen.{states_seen}
use Rattle.line_outcome.specs.LineOutcomes.{line_refused, IsEndedAs, CanBeWritten}
use Rattle.line_outcome.proofs.Refused.{refused_here}
use Rattle.line_outcome.proofs.Writable.{ended_written}
use Rattle.server_conn.specs.Becoming.{RunsTo, RunsShort, BecomesHere}

-- how a query ended can be written
pub ended_writable : (ready : Ready) (before now : List Hold) (ended : Ended) → Ran ready before now ended → IsRight ready ended
    → (o : LineOutcome) → IsEndedAs ready ended o → CanBeWritten o
ended_writable ready before now ended ran right o is =
    subst (λ query. IsOutcome query o.versions o.outcome) (sym is.query)
    (subst (λ versions. IsOutcome (Some ready.query) versions o.outcome) (sym is.versions)
    (ended_written (states_seen now) ready ran.q ended o.outcome ran.served ran.of ran.ends right is.outcome))

pub runs_to : (ready : Ready) (before now : List Hold) (ended : Ended) → Ran ready before now ended → IsRight ready ended
    → (o : LineOutcome) → IsEndedAs ready ended o → RunsTo ready before now o
runs_to ready before now ended ran right o is = record { ended = ended; ran = ran; right = right; outcome = is }

-- a line that is refused before it runs
pub refused_becomes : (view : View) (number : ℕ) (bytes : List ℕ) (holds : List Hold) (refusal : Refusal) (query : Option Query) (o : LineOutcome)
    → RefusesLine admission_causes (line_over view number bytes) refusal query → o ≡ line_refused refusal query → BecomesHere view number bytes holds holds o
refused_becomes view number bytes holds refusal query o refused is = inl (refused_here view number bytes o refusal query refused is, refl)

pub refused_written : (view : View) (number : ℕ) (bytes : List ℕ) (refusal : Refusal) (query : Option Query) (o : LineOutcome)
    → RefusesLine admission_causes (line_over view number bytes) refusal query → o ≡ line_refused refusal query → CanBeWritten o
refused_written view number bytes refusal query o refused is =
    subst CanBeWritten (sym is) (refused_writable query [] (line_over view number bytes) admission_causes refusal refused)

-- a line whose query ran
pub run_becomes : (view : View) (number : ℕ) (bytes : List ℕ) (before now : List Hold) (ready : Ready) → IsAdmitted (line_over view number bytes) ready
    → (o : LineOutcome) → RunsTo ready before now o → BecomesHere view number bytes before now o
run_becomes view number bytes before now ready admitted o runs = inr (record { ready = ready; admitted = admitted; runs = runs })

-- a query that ended ran some way
pub ran_some : (ready : Ready) (before now : List Hold) (ended : Ended) → Ran ready before now ended → RanSome ready before now
ran_some ready before now ended ran = inr (ran.q, record { of = ran.of; served = ran.served; uses = ran.uses })

-- where memory ran out for a line's query it ran some way
pub runs_short : (view : View) (number : ℕ) (bytes : List ℕ) (before now : List Hold) (ready : Ready) → IsAdmitted (line_over view number bytes) ready
    → RanSome ready before now → RunsShort view number bytes before now
runs_short view number bytes before now ready admitted ran = inr (ready, admitted, ran)

-- or for the text of what became of it
pub became_short : (view : View) (number : ℕ) (bytes : List ℕ) (before now : List Hold) (o : LineOutcome) → BecomesHere view number bytes before now o
    → RunsShort view number bytes before now
became_short view number bytes before now o (inl refused) = inl refused.1
became_short view number bytes before now o (inr run) =
    runs_short view number bytes before now run.ready run.admitted (ran_some run.ready before now run.runs.ended run.runs.ran)

pub if_short : {A E P : Type 0} (r : Result A E) → P → OnErr r P
if_short (Ok x) p = tt
if_short (Err e) p = p
