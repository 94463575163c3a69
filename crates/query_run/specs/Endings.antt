-- How the queries of a world end.
use Rattle.std.specs.Prelude.{◌≡◌, Some, None}
use Rattle.ranked_list.specs.declared.need.Need.TheVariants.{Done}
use Rattle.machine_base.specs.declared.answer.Answer.{Answer}
use Rattle.machine_base.specs.Machine.{IsSameLog}
use Rattle.query_core.specs.declared.ready.Ready.{Ready}
use Rattle.query_core.specs.Methods.{AnswersWith}
use Rattle.query_core.specs.OneAnswer.{IsAnsweredWith}
use Rattle.query_core.specs.Ready.{method_of_ready}
use Rattle.query_core.specs.Machines.{method_of, state_of}
use Rattle.query_run.specs.declared.ended.Ended.{Ended}
use Rattle.query_run.specs.declared.ended.Ended.TheVariants as ended
use Rattle.query_run.specs.declared.ended.Refusal.{Refusal}
use Rattle.query_run.specs.declared.ended.Refusal.TheVariants as refusal
use Rattle.query_run.specs.declared.running_query.RunningQuery.{RunningQuery}
use Rattle.query_run.specs.Inquiries.{needed}

-- an ending is that of a refused query
abbrev pub IsRefusedEnding : Refusal → Ended → Type 0
IsRefusedEnding refused (ended.Answered answer) = ⊥
IsRefusedEnding refused (ended.Core fault) = refused ≡ refusal.Core fault
IsRefusedEnding refused (ended.Look list fault) = refused ≡ refusal.Look list fault

-- how a query ended: with the answer of its machine and its transcript, where nothing was needed any more; or as it was refused
pub record IsAnswerOf (q : RunningQuery) (answer : Answer) : Type 0 where
  pub unrefused : q.refusal ≡ None
  pub done : needed q ≡ Done
  pub items : AnswersWith (method_of q.machine) (state_of q.machine) answer.items
  pub log : IsSameLog answer.transcript (state_of q.machine).log

abbrev pub EndsAs : RunningQuery → Ended → Type 0
EndsAs q (ended.Answered answer) = IsAnswerOf q answer
EndsAs q (ended.Core fault) = q.refusal ≡ Some (refusal.Core fault)
EndsAs q (ended.Look list fault) = q.refusal ≡ Some (refusal.Look list fault)

-- an answer is a right one of its query
abbrev pub IsRight : Ready → Ended → Type 0
IsRight ready (ended.Answered answer) = IsAnsweredWith (method_of_ready ready) ready.query ready.count answer
IsRight ready (ended.Core fault) = Unit {0}
IsRight ready (ended.Look list fault) = Unit {0}
