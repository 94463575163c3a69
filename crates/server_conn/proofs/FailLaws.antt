-- A query that is refused for a call that failed or was garbled was shown it.
use Rattle.std.proofs.Common.{◌≡◌, ℕ, List, cond, Option, Some, slice_index_or, refl, ap, ◌∙◌, subst, eq-eqb}
use Rattle.machine_base.specs.declared.core_fault.CoreFault.TheVariants as core
use Rattle.turn_lock.specs.declared.facts.Tally.{Tally}
use Rattle.source_api.specs.declared.source.FailKind.TheVariants as kind
use Rattle.source_state.specs.declared.entry.SourceFault.TheVariants as fault
use Rattle.source_state.specs.declared.look.LookFault.{LookFault}
use Rattle.source_state.specs.declared.look.LookFault.TheVariants as look
use Rattle.source_pool.specs.declared.hold.Hold.{Hold}
use Rattle.source_pool.specs.Passes.{hold_at}
use Rattle.source_pool.specs.Looks.{shown_fault}
use Rattle.cert_text.specs.declared.outcome.Outcome.TheVariants.{Refused}
use Rattle.cert_text.specs.declared.refusal.Refusal.TheVariants.{Failed, Garbled}
use Rattle.query_core.specs.declared.ready.Ready.{Ready}
use Rattle.query_admission.specs.declared.line_outcome.LineOutcome.{LineOutcome}
use Rattle.query_run.specs.declared.ended.Ended.{Ended}
use Rattle.query_run.specs.declared.ended.Ended.TheVariants as ended
use Rattle.query_run.specs.declared.ended.Refusal.{Refusal}
use Rattle.query_run.specs.declared.ended.Refusal.TheVariants.{Look}
use Rattle.query_run.specs.Inquiries.{source_of}
use Rattle.query_run.specs.Endings.{EndsAs}
use Rattle.query_run.specs.Ran.{Ran, shown_to}
use Rattle.line_outcome.specs.Outcomes.{ended_outcome}
use Rattle.server_conn.specs.Becoming.{RunsTo, ShowsOneMore}

-- a query with such an outcome ended so
ended_failed : (e : Ended) (list : ℕ) → ended_outcome e ≡ Some (Refused (Failed list)) → e ≡ ended.Look list (look.Call kind.Failed)
ended_failed (ended.Answered answer) list is = absurd cc
ended_failed (ended.Core (core.Strangers object count)) list is = absurd cc
ended_failed (ended.Core (core.RoomFull room)) list is = absurd cc
ended_failed (ended.Look l (look.Source (fault.OutOfOrder place before after))) list is = absurd cc
ended_failed (ended.Look l (look.Source (fault.TooHigh place grade))) list is = absurd cc
ended_failed (ended.Look l (look.Source (fault.Repeated object place))) list is = absurd cc
ended_failed (ended.Look l (look.Source (fault.Clash object sorted random))) list is = absurd cc
ended_failed (ended.Look l (look.Source (fault.Above object grade bottom))) list is = absurd cc
ended_failed (ended.Look l (look.Source (fault.ShortList stated got))) list is = absurd cc
ended_failed (ended.Look l (look.Source (fault.Moved had now))) list is = absurd cc
ended_failed (ended.Look l (look.Missing object)) list is = absurd cc
ended_failed (ended.Look l (look.AsksFull kept)) list is = absurd cc
ended_failed (ended.Look l (look.Call kind.Failed)) list is = let same : l ≡ list = cc in ap (λ n. ended.Look n (look.Call kind.Failed)) same
ended_failed (ended.Look l (look.Call kind.Garbled)) list is = absurd cc
ended_failed (ended.Look l (look.Call kind.Memory)) list is = absurd cc

ended_garbled : (e : Ended) (list : ℕ) → ended_outcome e ≡ Some (Refused (Garbled list)) → e ≡ ended.Look list (look.Call kind.Garbled)
ended_garbled (ended.Answered answer) list is = absurd cc
ended_garbled (ended.Core (core.Strangers object count)) list is = absurd cc
ended_garbled (ended.Core (core.RoomFull room)) list is = absurd cc
ended_garbled (ended.Look l (look.Source (fault.OutOfOrder place before after))) list is = absurd cc
ended_garbled (ended.Look l (look.Source (fault.TooHigh place grade))) list is = absurd cc
ended_garbled (ended.Look l (look.Source (fault.Repeated object place))) list is = absurd cc
ended_garbled (ended.Look l (look.Source (fault.Clash object sorted random))) list is = absurd cc
ended_garbled (ended.Look l (look.Source (fault.Above object grade bottom))) list is = absurd cc
ended_garbled (ended.Look l (look.Source (fault.ShortList stated got))) list is = absurd cc
ended_garbled (ended.Look l (look.Source (fault.Moved had now))) list is = absurd cc
ended_garbled (ended.Look l (look.Missing object)) list is = absurd cc
ended_garbled (ended.Look l (look.AsksFull kept)) list is = absurd cc
ended_garbled (ended.Look l (look.Call kind.Failed)) list is = absurd cc
ended_garbled (ended.Look l (look.Call kind.Garbled)) list is = let same : l ≡ list = cc in ap (λ n. ended.Look n (look.Call kind.Garbled)) same
ended_garbled (ended.Look l (look.Call kind.Memory)) list is = absurd cc

-- a fault that refused a query was shown of the list's source
shown_at : (ready : Ready) (before now : List Hold) (e : Ended) (list : ℕ) (f : LookFault) → Ran ready before now e → e ≡ ended.Look list f
    → (hold_at now (slice_index_or ready.sources.items list 0)).shown ≡ shown_fault f (hold_at before (slice_index_or ready.sources.items list 0)).shown
shown_at ready before now e list f ran is =
    let q = ran.q in
    let at = source_of q list in
    let refused : q.refusal ≡ Some (Look list f) = subst (EndsAs q) is ran.ends in
    let first : Tally = (hold_at before at).shown in
    let same : at ≡ slice_index_or ready.sources.items list 0 = ap (λ (sources : List ℕ). slice_index_or sources list 0) ran.of.sources in
    let here : (hold_at now at).shown ≡ shown_fault f first =
    ran.uses.shown at ∙ (ap (λ (r : Option Refusal). shown_to q r at first) refused ∙ ap (λ t. cond t (shown_fault f first) first) (eq-eqb at at refl)) in
    subst (λ source. (hold_at now source).shown ≡ shown_fault f (hold_at before source).shown) same here

pub failed_shown : (ready : Ready) (before now : List Hold) (o : LineOutcome) (list : ℕ) → RunsTo ready before now o
    → o.outcome ≡ Refused (Failed list) → ShowsOneMore kind.Failed ready list before now
failed_shown ready before now o list runs is =
    shown_at ready before now runs.ended list (look.Call kind.Failed) runs.ran (ended_failed runs.ended list (runs.outcome.outcome ∙ ap Some is))

pub garbled_shown : (ready : Ready) (before now : List Hold) (o : LineOutcome) (list : ℕ) → RunsTo ready before now o
    → o.outcome ≡ Refused (Garbled list) → ShowsOneMore kind.Garbled ready list before now
garbled_shown ready before now o list runs is =
    shown_at ready before now runs.ended list (look.Call kind.Garbled) runs.ran (ended_garbled runs.ended list (runs.outcome.outcome ∙ ap Some is))
