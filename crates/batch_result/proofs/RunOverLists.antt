-- How a query ends that is on its run over its own lists.
use Rattle.std.proofs.Common.{◌≡◌, ℕ, List, length, Result, Ok, Err, Some, subst, ◌∙◌}
use Rattle.ranked_list.specs.declared.row.Row.{Row}
use Rattle.ranked_list.specs.Table.{IsTable}
use Rattle.monotone_fn.specs.Shape.{list_count}
use Rattle.topk_theory.specs.Transcript.{whole}
use Rattle.access_log.specs.Log.{AgreesWith}
use Rattle.machine_base.specs.declared.answer.Answer.{Answer}
use Rattle.machine_base.specs.declared.core_fault.CoreFault.{CoreFault}
use Rattle.machine_base.specs.declared.core_fault.CoreFault.TheVariants as core
use Rattle.source_state.specs.declared.look.LookFault.{LookFault}
use Rattle.source_api.specs.declared.source.FailKind.TheVariants as kind
use Rattle.source_state.specs.declared.look.LookFault.TheVariants as why
use Rattle.source_state.specs.State.{State, state_at}
use Rattle.query_core.specs.declared.drive_fault.DriveFault.{DriveFault}
use Rattle.query_core.specs.declared.drive_fault.DriveFault.TheVariants.{RoomFull}
use Rattle.query_core.specs.declared.ready.Ready.{Ready}
use Rattle.query_core.specs.Driving.{AnswersOver, DrivesWith, IsFedFrom, RunsOver}
use Rattle.query_core.specs.Machines.{state_of}
use Rattle.query_core.specs.OneAnswer.{IsOverRoomWith}
use Rattle.query_core.specs.Ready.{method_of_ready}
use Rattle.query_core.proofs.Answering.{drives_begun, finishes_begun, stops_begun}
use Rattle.query_run.specs.declared.ended.Ended.{Ended}
use Rattle.query_run.specs.declared.ended.Ended.TheVariants as ended
use Rattle.query_run.specs.declared.ended.Refusal.TheVariants as refusal
use Rattle.query_run.specs.declared.running_query.RunningQuery.{RunningQuery}
use Rattle.query_run.specs.Inquiries.{source_needed}
use Rattle.query_run.specs.Causes.{IsCause}
use Rattle.query_run.specs.Endings.{EndsAs}
use Rattle.query_run.specs.Honest.{lists_of, MayRefuse, IsOnItsRun}
use Rattle.query_run.specs.Kept.{IsServed}
use Rattle.query_run.specs.Made.{IsOf}
use Rattle.batch_result.specs.Batches.{IsSpared}
use Rattle.batch_result.specs.Tables.{EndsOrFails, EndsOver, IsOutside}

-- a query over its own lists, which form a table and agree with its transcript
module _ (lists : List (List Row)) (states : List State) (ready : Ready) (q : RunningQuery) (served : IsServed states q) (of : IsOf ready q)
    (table : IsTable ready.count (lists_of lists q)) (agrees : AgreesWith (lists_of lists q) (state_of q.machine).log) where
  abbrev D : List (List Row)
  D = lists_of lists q

  fed : IsFedFrom (whole D) (state_of q.machine)
  fed = record { drawn = agrees.drawn; roomy = served.drawn.roomy }

  many_lists : length D ≡ list_count ready.query.expr
  many_lists = agrees.lists ∙ of.goes.lists ∙ of.begun.lists

  comes : (result : Result Answer DriveFault) → DrivesWith (method_of_ready ready) D of.first result → RunsOver ready D result
  comes result drives = drives_begun (method_of_ready ready) ready D of.first result of.is table many_lists of.is.expr.lists.some of.begun drives

  pub answers_over : (answer : Answer) → EndsAs q (ended.Answered answer) → AnswersOver ready D answer
  answers_over answer ends =
      comes (Ok answer) (finishes_begun D (method_of_ready ready) of.first q.machine (Ok answer) of.method of.goes fed ends.done (served.run, ends.items, ends.log))

  pub is_over : (room : ℕ) → MayRefuse D q (Some (refusal.Core (core.RoomFull room))) → q.refusal ≡ Some (refusal.Core (core.RoomFull room))
      → IsOverRoomWith (method_of_ready ready) ready.query ready.count D room
  is_over room may e =
      let cause : IsCause (state_at states (source_needed q)) (state_of q.machine) q.waiting.noted (Some (refusal.Core (core.RoomFull room))) =
      subst (IsCause (state_at states (source_needed q)) (state_of q.machine) q.waiting.noted) e served.cause in
      comes (Err (RoomFull room)) (stops_begun D (method_of_ready ready) of.first q.machine (RoomFull room) of.method of.goes (cause.2, may.0, may.1))

  -- whatever happened outside, the query ends over its lists, or is refused for that
  pub ends_or_fails : ((fault : CoreFault) → q.refusal ≡ Some (refusal.Core fault) → MayRefuse D q (Some (refusal.Core fault)))
      → ((list : ℕ) (fault : LookFault) → q.refusal ≡ Some (refusal.Look list fault) → IsOutside fault) → (end : Ended) → EndsAs q end → EndsOrFails D ready end
  ends_or_fails lacked looked (ended.Answered answer) ends = answers_over answer ends
  ends_or_fails lacked looked (ended.Core (core.RoomFull room)) ends = is_over room (lacked (core.RoomFull room) ends) ends
  ends_or_fails lacked looked (ended.Core (core.Strangers object count)) ends = lacked (core.Strangers object count) ends
  ends_or_fails lacked looked (ended.Look list fault) ends = looked list fault ends

  -- where no call that failed refuses it, the query ends over its lists
  pub ends_over : IsOnItsRun lists q → ((list : ℕ) → q.refusal ≡ Some (refusal.Look list (why.Call kind.Failed)) → ⊥)
      → ((list : ℕ) → q.refusal ≡ Some (refusal.Look list (why.Call kind.Garbled)) → ⊥)
      → IsSpared q → (end : Ended) → EndsAs q end → EndsOver D ready end
  ends_over on failed garbled spared (ended.Answered answer) ends = answers_over answer ends
  ends_over on failed garbled spared (ended.Core (core.RoomFull room)) ends = is_over room (subst (MayRefuse D q) ends on.refused) ends
  ends_over on failed garbled spared (ended.Core (core.Strangers object count)) ends = subst (MayRefuse D q) ends on.refused
  ends_over on failed garbled spared (ended.Look list (why.Source fault)) ends = subst (MayRefuse D q) ends on.refused
  ends_over on failed garbled spared (ended.Look list (why.Missing object)) ends = subst (MayRefuse D q) ends on.refused
  ends_over on failed garbled spared (ended.Look list (why.AsksFull kept)) ends = subst (MayRefuse D q) ends on.refused
  ends_over on failed garbled spared (ended.Look list (why.Call kind.Failed)) ends = failed list ends
  ends_over on failed garbled spared (ended.Look list (why.Call kind.Garbled)) ends = garbled list ends
  ends_over on failed garbled spared (ended.Look list (why.Call kind.Memory)) ends = spared list ends
