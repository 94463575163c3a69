-- What a query ends with is right.
use Rattle.std.proofs.Common.{◌≡◌, true, Option, Some, None, ◌||◌, is_some, List, refl, sym, ap, subst, ◌∙◌}
use Rattle.ranked_list.specs.declared.need.Need.{Need}
use Rattle.ranked_list.specs.declared.need.Need.TheVariants as need
use Rattle.source_state.proofs.Lists.{none_not_some}
use Rattle.source_state.specs.State.{State}
use Rattle.machine_base.specs.declared.answer.Answer.{Answer}
use Rattle.query_core.specs.declared.ready.Ready.{Ready}
use Rattle.query_core.specs.OneAnswer.{IsAnsweredWith}
use Rattle.query_core.specs.Ready.{method_of_ready}
use Rattle.query_core.specs.Machines.{method_of, state_of}
use Rattle.query_core.proofs.Answering.{end_answered}
use Rattle.query_run.specs.declared.ended.Ended.{Ended}
use Rattle.query_run.specs.declared.ended.Ended.TheVariants as ended
use Rattle.query_run.specs.declared.ended.Refusal.{Refusal}
use Rattle.query_run.specs.declared.running_query.RunningQuery.{RunningQuery}
use Rattle.query_run.specs.Inquiries.{told_to, needed, is_done, is_ended}
use Rattle.query_run.specs.Kept.{IsServed}
use Rattle.query_run.specs.Made.{IsOf}
use Rattle.query_run.specs.Endings.{IsAnswerOf, IsRefusedEnding, EndsAs, IsRight}

-- the answer of a query is right
answered : (states : List State) (ready : Ready) (q : RunningQuery) (answer : Answer) → IsServed states q → IsOf ready q → IsAnswerOf q answer
    → IsAnsweredWith (method_of_ready ready) ready.query ready.count answer
answered states ready q answer h is ends =
    subst (λ method. IsAnsweredWith method ready.query ready.count answer) is.method
    (end_answered (method_of q.machine) ready.query ready.count _ (told_to states q) is.first answer is.is.expr.lists.some is.begun
    (record { last = state_of q.machine; goes = is.goes; fed = h.drawn; run = h.run; done = ends.done; items = ends.items; log = ends.log }))

-- what a query ends with is right
pub right : (states : List State) (ready : Ready) (q : RunningQuery) (e : Ended) → IsServed states q → IsOf ready q → EndsAs q e → IsRight ready e
right states ready q (ended.Answered answer) h is ends = answered states ready q answer h is ends
right states ready q (ended.Core fault) h is ends = tt
right states ready q (ended.Look list fault) h is ends = tt

-- a query that has ended and isn't refused needs nothing
done_need : (n : Need) → is_done n ≡ true → n ≡ need.Done
done_need (need.Row list depth) e = absurd (cc)
done_need (need.Grade list object) e = absurd (cc)
done_need need.Done e = refl

done_by : (o : Option Refusal) (n : Need) → (is_some o || is_done n) ≡ true → o ≡ None → n ≡ need.Done
done_by None n e none = done_need n e
done_by (Some r) n e none = absurd (none_not_some (sym none))

pub ended_done : (q : RunningQuery) → is_ended q ≡ true → q.refusal ≡ None → needed q ≡ need.Done
ended_done q e none = done_by q.refusal (needed q) e none

-- the ending of a query that is refused
pub refused_ends : (q : RunningQuery) (r : Refusal) (e : Ended) → q.refusal ≡ Some r → IsRefusedEnding r e → EndsAs q e
refused_ends q r (ended.Answered answer) is h = absurd h
refused_ends q r (ended.Core fault) is h = is ∙ ap (λ (x : Refusal). Some x) h
refused_ends q r (ended.Look list fault) is h = is ∙ ap (λ (x : Refusal). Some x) h
