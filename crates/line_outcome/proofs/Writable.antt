-- The outcomes of lines can be written.
use Rattle.std.proofs.Common.{◌≡◌, ℕ, ◌<◌, List, [], ◌∷◌, All, length, Some, sym, ap, ◌∙◌, subst, arith}
use Rattle.std.proofs.lemmas.Option.{same_Some}
use Rattle.std.proofs.lemmas.List.Elements.{All-from_recursion}
use Rattle.query_text.specs.declared.query.Query.{Query}
use Rattle.cert_text.specs.declared.outcome.Outcome.{Outcome}
use Rattle.cert_text.specs.declared.outcome.Outcome.TheVariants.{Answered, Refused}
use Rattle.cert_text.specs.Outcome.{IsOutcome}
use Rattle.query_core.specs.declared.ready.Ready.{Ready}
use Rattle.source_state.specs.State.{State, state_at}
use Rattle.source_state.specs.declared.look.LookFault.{LookFault}
use Rattle.source_api.specs.declared.source.FailKind.TheVariants as kind
use Rattle.source_state.specs.declared.look.LookFault.TheVariants as look
use Rattle.source_state.specs.declared.entry.SourceFault.{SourceFault}
use Rattle.source_state.specs.declared.entry.SourceFault.TheVariants as fault
use Rattle.machine_base.specs.declared.core_fault.CoreFault.TheVariants as core
use Rattle.query_admission.specs.View.{View}
use Rattle.query_admission.specs.Causes.{admission_causes, line_over}
use Rattle.query_admission.proofs.Becoming.{answered_writable, refused_writable}
use Rattle.query_run.specs.declared.ended.Ended.{Ended}
use Rattle.query_run.specs.declared.ended.Ended.TheVariants as ended
use Rattle.query_run.specs.declared.ended.Refusal.TheVariants as refusal
use Rattle.query_run.specs.declared.running_query.RunningQuery.{RunningQuery}
use Rattle.query_run.specs.Causes.{IsCause, IsOfList}
use Rattle.query_run.specs.Endings.{EndsAs, IsRight}
use Rattle.query_run.specs.Kept.{IsServed}
use Rattle.query_run.specs.Made.{IsOf}
use Rattle.query_run.specs.Inquiries.{needed, source_needed, list_needed}
use Rattle.query_run.proofs.Serving.{listed, of_some_list}
use Rattle.query_core.specs.Machines.{state_of}
use Rattle.ranked_list.specs.declared.need.Need.{Need}
use Rattle.ranked_list.specs.declared.need.Need.TheVariants as need
use Rattle.query_admission.specs.declared.line_outcome.LineOutcome.{LineOutcome}
use Rattle.line_outcome.specs.Outcomes.{ended_outcome, source_refusal}
use Rattle.line_outcome.specs.LineOutcomes.{CanBeWritten, IsLineRefused}

pub line_refused_written : (view : View) (number : ℕ) (bytes : List ℕ) (o : LineOutcome) → IsLineRefused view number bytes o → CanBeWritten o
line_refused_written view number bytes o is = subst (IsOutcome o.query o.versions) (sym is.outcome) (refused_writable o.query o.versions (line_over view number bytes) admission_causes is.refusal is.refused)

-- a refusal of a list that the query has
one_list : (query : Query) (list : ℕ) → list < length query.names → All (λ l. l < length query.names) (list ∷ [])
one_list query list h = All-from_recursion (λ l. l < length query.names) (list ∷ []) (h, tt)

source_written : (query : Query) (versions : List ℕ) (list : ℕ) (f : SourceFault) → list < length query.names → IsOutcome (Some query) versions (Refused (source_refusal list f))
source_written query versions list (fault.OutOfOrder place before after) h = one_list query list h
source_written query versions list (fault.TooHigh place grade) h = one_list query list h
source_written query versions list (fault.Repeated object place) h = one_list query list h
source_written query versions list (fault.Clash object sorted random) h = one_list query list h
source_written query versions list (fault.Above object grade bottom) h = one_list query list h
source_written query versions list (fault.ShortList stated got) h = one_list query list h
source_written query versions list (fault.Moved had now) h = one_list query list h

look_written : (query : Query) (versions : List ℕ) (list : ℕ) (f : LookFault) (o : Outcome) → list < length query.names → ended_outcome (ended.Look list f) ≡ Some o
    → IsOutcome (Some query) versions o
look_written query versions list (look.Source f) o h e = subst (IsOutcome (Some query) versions) (same_Some _ o e) (source_written query versions list f h)
look_written query versions list (look.Missing object) o h e = subst (IsOutcome (Some query) versions) (same_Some _ o e) (one_list query list h)
look_written query versions list (look.AsksFull kept) o h e = subst (IsOutcome (Some query) versions) (same_Some _ o e) (one_list query list h)
look_written query versions list (look.Call kind.Failed) o h e = subst (IsOutcome (Some query) versions) (same_Some _ o e) (one_list query list h)
look_written query versions list (look.Call kind.Garbled) o h e = subst (IsOutcome (Some query) versions) (same_Some _ o e) (one_list query list h)
look_written query versions list (look.Call kind.Memory) o h e = absurd cc

pub of_list_is : (list : ℕ) (n : Need) → IsOfList list n → list_needed n ≡ list
of_list_is list (need.Row other depth) h = h
of_list_is list (need.Grade other object) h = h
of_list_is list need.Done h = absurd h

pub ended_written : (states : List State) (ready : Ready) (q : RunningQuery) (e : Ended) (o : Outcome) → IsServed states q → IsOf ready q → EndsAs q e
    → IsRight ready e → ended_outcome e ≡ Some o → IsOutcome (Some ready.query) ready.versions.items o
ended_written states ready q (ended.Answered answer) o served of ends right e = subst (IsOutcome (Some ready.query) ready.versions.items) (same_Some (Answered answer) o e) (answered_writable ready answer of.is right)
ended_written states ready q (ended.Core (core.Strangers object count)) o served of ends right e =
    subst (IsOutcome (Some ready.query) ready.versions.items) (same_Some _ o e) (All-from_recursion (λ l. l < length ready.query.names) [] tt)
ended_written states ready q (ended.Core (core.RoomFull room)) o served of ends right e =
    subst (IsOutcome (Some ready.query) ready.versions.items) (same_Some _ o e) (All-from_recursion (λ l. l < length ready.query.names) [] tt)
ended_written states ready q (ended.Look list f) o served of ends right e =
    let cause : IsCause (state_at states (source_needed q)) (state_of q.machine) q.waiting.noted (Some (refusal.Look list f)) =
    subst (IsCause (state_at states (source_needed q)) (state_of q.machine) q.waiting.noted) ends served.cause in
    let of_list : IsOfList list (needed q) = cause.0 in
    let l = listed states q served.sources served.run (of_some_list list (needed q) of_list) in
    let same : list_needed (needed q) ≡ list = of_list_is list (needed q) of_list in
    let many : length q.sources.items ≡ length ready.query.names = ap (length {A = ℕ}) of.sources ∙ of.is.sources in
    look_written ready.query ready.versions.items list f o (omega (arith, l, same, many)) e
