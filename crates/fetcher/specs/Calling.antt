-- Which call of its source a turn of a fetcher makes: the one that the plan names of the state that it found.
use Rattle.std.specs.Prelude.{◌≡◌, ℕ, Option, Some, None, List, [], ◌∷◌, ◌++◌, length}
use Rattle.std.specs.declared.result.Result.{Result}
use Rattle.std.specs.declared.result.Result.TheVariants.{Ok, Err}
use Rattle.ranked_list.specs.declared.row.Row.{Row}
use Rattle.turn_lock.specs.declared.known.Known.{Known}
use Rattle.source_state.specs.declared.entry.LogEntry.{LogEntry}
use Rattle.source_state.specs.declared.event.Event.{Event}
use Rattle.source_state.specs.declared.event.Event.TheVariants as event
use Rattle.source_state.specs.declared.plan.Plan.{Plan}
use Rattle.source_state.specs.declared.plan.Plan.TheVariants as plan
use Rattle.source_state.specs.State.{State, facts_of}
use Rattle.source_state.specs.Events as events
use Rattle.source_state.specs.Events.{MayCome}
use Rattle.source_state.specs.Looking.{plan_of}
use Rattle.source_api.specs.declared.source.Trouble.{Trouble}
use Rattle.source_api.specs.Calls.{Call, with_call}
use Rattle.fetcher.specs.declared.turned.Turned.{Turned}
use Rattle.fetcher.specs.declared.turned.Turned.TheVariants as turned
use Rattle.fetcher.specs.Turning.{IsFound, HasSeen, settled_by, answer_by, troubled_by}

-- the event that the answer to a call for a page makes, and the one that the answer to a call for a grade makes
abbrev pub page_event : Result (List Row) Trouble → Event
page_event (Ok rows) = event.Page rows
page_event (Err why) = troubled_by None why

abbrev pub grade_event : ℕ → Result (Option ℕ) Trouble → Event
grade_event object (Ok grade) = settled_by object grade
grade_event object (Err why) = troubled_by (Some object) why

-- what a turn tells of such an answer
abbrev pub page_turned : Result (List Row) Trouble → Turned
page_turned (Ok rows) = turned.Paged (length rows)
page_turned (Err why) = turned.Troubled why

abbrev pub grade_turned : ℕ → Result (Option ℕ) Trouble → Turned
grade_turned object (Ok grade) = answer_by object grade
grade_turned object (Err why) = turned.Troubled why

-- one turn of the lock: the pass found a state, gave it back as it was, and read its plan
pub record IsLooked (page ahead : ℕ) (before after : Known LogEntry) (next : Plan) : Type 0 where
  pub found : State
  pub is : IsFound found before
  pub gave : after.gave ≡ before.gave ++ facts_of found ∷ []
  pub sees : HasSeen found after
  pub plans : next ≡ plan_of found page ahead

-- one turn of the lock: the pass found a state to which this event may come, and gave it back with the event
pub record PutsEvent (event : Event) (before after : Known LogEntry) : Type 0 where
  pub found : State
  pub is : IsFound found before
  pub may : MayCome found event
  pub gave : after.gave ≡ before.gave ++ facts_of (events.after found event) ∷ []
  pub sees : HasSeen (events.after found event) after

-- the source was called for this page and for nothing else, and its answer was told in one turn of the lock
pub record CalledForPage (from count : ℕ) (calls now : Option (List Call)) (before after : Known LogEntry) (turn : Turned) : Type 0 where
  pub answer : Result (List Row) Trouble
  pub called : now ≡ with_call (Call.Page from count answer) calls
  pub told : PutsEvent (page_event answer) before after
  pub is : turn ≡ page_turned answer

-- the source was called for the grade of this object and for nothing else, and its answer was told in one turn of the lock
pub record CalledForGrade (object : ℕ) (calls now : Option (List Call)) (before after : Known LogEntry) (turn : Turned) : Type 0 where
  pub answer : Result (Option ℕ) Trouble
  pub called : now ≡ with_call (Call.Grade object answer) calls
  pub told : PutsEvent (grade_event object answer) before after
  pub is : turn ≡ grade_turned object answer

-- the source wasn't called, and no further turn of the lock was taken
pub record CalledForNothing (calls now : Option (List Call)) (before after : Known LogEntry) (turn : Turned) : Type 0 where
  pub uncalled : now ≡ calls
  pub rests : after ≡ before
  pub is : turn ≡ turned.Idle

-- a plan was carried out: the source was called for what it names, once, and not at all where it is idle
abbrev pub IsCarriedOut : Plan → Option (List Call) → Option (List Call) → Known LogEntry → Known LogEntry → Turned → Type 0
IsCarriedOut plan.Idle calls now before after turn = CalledForNothing calls now before after turn
IsCarriedOut (plan.Page from count) calls now before after turn = CalledForPage from count calls now before after turn
IsCarriedOut (plan.Grade object) calls now before after turn = CalledForGrade object calls now before after turn

-- a turn of a fetcher: in one turn of the lock it found a state and read its plan, and then it carried this plan out
pub record IsFetchTurn (page ahead : ℕ) (calls now : Option (List Call)) (before after : Known LogEntry) (turn : Turned) : Type 0 where
  pub next : Plan
  pub looked : Known LogEntry
  pub looks : IsLooked page ahead before looked next
  pub carries : IsCarriedOut next calls now looked after turn
