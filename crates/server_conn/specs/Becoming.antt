-- What becomes of a query line that is answered through a pass of a pool.
use Rattle.std.specs.Prelude.{◌≡◌, ◌⊎◌, ℕ, Bool, true, false, List, slice_index_or}
use Rattle.source_api.specs.declared.source.FailKind.{FailKind}
use Rattle.source_state.specs.Events.{counted}
use Rattle.source_pool.specs.declared.hold.Hold.{Hold}
use Rattle.source_pool.specs.Passes.{hold_at}
use Rattle.cert_text.specs.declared.outcome.Outcome.{Outcome}
use Rattle.cert_text.specs.declared.outcome.Outcome.TheVariants.{Answered, Refused}
use Rattle.cert_text.specs.declared.refusal.Refusal.{Refusal}
use Rattle.cert_text.specs.declared.refusal.Refusal.TheVariants.{Moved}
use Rattle.cert_text.specs.Outcome.{outcome_text}
use Rattle.query_core.specs.declared.ready.Ready.{Ready}
use Rattle.query_admission.specs.View.{View}
use Rattle.query_admission.specs.Admission.{IsAdmitted}
use Rattle.query_admission.specs.declared.line_outcome.LineOutcome.{LineOutcome}
use Rattle.query_run.specs.declared.ended.Ended.{Ended}
use Rattle.query_run.specs.Endings.{IsRight}
use Rattle.query_run.specs.Ran.{Ran, RanSome}
use Rattle.query_admission.specs.Causes.{line_over}
use Rattle.line_outcome.specs.LineOutcomes.{IsEndedAs, IsLineRefused}
use Rattle.server_conn.specs.declared.line.ToldLine.{ToldLine}

-- a query that is ready ran through the pass, and this is how it ended: an answer is right, and rests on what the pass saw; a refusal has its cause
-- there, and a call that failed or was garbled was shown through the pass while the query ran
pub record RunsTo (ready : Ready) (before now : List Hold) (o : LineOutcome) : Type 0 where
  pub ended : Ended
  pub ran : Ran ready before now ended
  pub right : IsRight ready ended
  pub outcome : IsEndedAs ready ended o

-- of a ready query's list, one more call of this kind was shown through the pass than before
abbrev pub ShowsOneMore : FailKind → Ready → ℕ → List Hold → List Hold → Type 0
ShowsOneMore what ready list before now =
    (hold_at now (slice_index_or ready.sources.items list 0)).shown ≡ counted what (hold_at before (slice_index_or ready.sources.items list 0)).shown

-- nothing refuses the line before it runs, and this is what its query runs to
pub record IsRunHere (view : View) (number : ℕ) (bytes : List ℕ) (before now : List Hold) (o : LineOutcome) : Type 0 where
  pub ready : Ready
  pub admitted : IsAdmitted (line_over view number bytes) ready
  pub runs : RunsTo ready before now o

abbrev pub is_answer : Outcome → Bool
is_answer (Answered answer) = true
is_answer (Refused refusal) = false

-- what becomes of a line: it is refused before it runs, and no source is looked at; or its query runs through the pass
abbrev pub BecomesHere : View → ℕ → List ℕ → List Hold → List Hold → LineOutcome → Type 0
BecomesHere view number bytes before now o = (IsLineRefused view number bytes o × (now ≡ before)) ⊎ IsRunHere view number bytes before now o

-- out of memory: the pass stays, or the line's query, which nothing refuses before it runs, ran some way through it
abbrev pub RunsShort : View → ℕ → List ℕ → List Hold → List Hold → Type 0
RunsShort view number bytes before now = (now ≡ before) ⊎ ((ready : Ready) × IsAdmitted (line_over view number bytes) ready × RanSome ready before now)

-- the refusal of a query whose source moved to another version
abbrev pub is_move : Refusal → Bool
is_move (Moved list had now) = true
is_move refusal = false

abbrev pub is_moved : Outcome → Bool
is_moved (Answered answer) = false
is_moved (Refused refusal) = is_move refusal

-- the text of what became of the line of a request, which is the first of its input
abbrev pub line_text : LineOutcome → List ℕ
line_text o = outcome_text 1 o.query o.count o.versions o.outcome

-- what is told of a line: a text, whether it is an answer, and whether a source moved
pub record LineSaid : Type 0 where
  pub text : List ℕ
  pub answered : Bool
  pub moved : Bool

-- the same of what was made
abbrev pub shown : ToldLine → LineSaid
shown told = record { text = told.text.items; answered = told.answered; moved = told.moved }

-- the line of a request is told by what becomes of it
pub record IsLineTold (view : View) (bytes : List ℕ) (before now : List Hold) (told : LineSaid) : Type 0 where
  pub outcome : LineOutcome
  pub becomes : BecomesHere view 1 bytes before now outcome
  pub text : told.text ≡ line_text outcome
  pub answered : told.answered ≡ is_answer outcome.outcome
  pub moved : told.moved ≡ is_moved outcome.outcome
