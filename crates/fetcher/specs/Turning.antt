-- What a turn of a fetcher brings, and what it leaves of the feeder.
use Rattle.std.specs.Prelude.{◌≡◌, ◌≤◌, ◌<◌, ◌+◌, ◌⊎◌, ℕ, Option, None, Some, List, length, IfSome, IsSome}
use Rattle.ranked_list.specs.declared.row.Row.{Row}
use Rattle.turn_lock.specs.declared.known.Known.{Known}
use Rattle.turn_lock.specs.Facts.{IsFrontOf}
use Rattle.turn_lock.specs.Known.{Follows}
use Rattle.source_state.specs.declared.entry.LogEntry.{LogEntry}
use Rattle.source_api.specs.declared.source.FailKind.{FailKind}
use Rattle.source_state.specs.declared.entry.Asked.TheVariants as became
use Rattle.source_state.specs.declared.event.Event.{Event}
use Rattle.source_state.specs.declared.event.Event.TheVariants as event
use Rattle.source_state.specs.declared.plan.Plan.{Plan}
use Rattle.source_state.specs.declared.plan.Plan.TheVariants as plan
use Rattle.source_state.specs.Log.{rows_in, fault_in}
use Rattle.source_state.specs.State.{State, asked_in, facts_of, IsSound}
use Rattle.source_state.specs.Events as events
use Rattle.source_state.specs.Events.{counted, MayCome}
use Rattle.source_state.specs.Looking.{reach_of, plan_of, Serves}
use Rattle.source_api.specs.declared.counts.Counts.{Counts}
use Rattle.source_api.specs.declared.source.Trouble.{Trouble}
use Rattle.source_api.specs.declared.source.Trouble.TheVariants as trouble
use Rattle.source_api.specs.Counting.{TroubleHasCause, GaveNothing, GaveRows, GaveGrade}
use Rattle.source_api.specs.Told.{IsPage, IsGrade}
use Rattle.fetcher.specs.declared.turned.Turned.{Turned}
use Rattle.fetcher.specs.declared.turned.Turned.TheVariants as turned

-- a state that the writer's pass may find: its name, log and tally are those that the pass knows, and its asks go on from those that it met
pub record IsFound (state : State) (known : Known LogEntry) : Type 0 where
  pub sound : IsSound state
  pub name : (state.list, state.count) ≡ known.name
  pub log : state.log ≡ known.seen
  pub tally : state.tally ≡ known.tally
  pub asks : IsFrontOf known.met state.asks
  pub want : known.sight.mark ≤ state.want

-- a pass has seen a state at the end of its last turn
pub record HasSeen (state : State) (known : Known LogEntry) : Type 0 where
  pub name : known.name ≡ (state.list, state.count)
  pub log : known.seen ≡ state.log
  pub asks : known.met ≡ state.asks
  pub tally : known.tally ≡ state.tally
  pub mark : known.sight.mark ≡ state.want
  pub due : known.sight.due ≡ (facts_of state).due

-- what the turns of a feeder leave of what it knows: its part, what it raised and what it asked stay, and it knows at least as much
pub record Feeds (before after : Known LogEntry) : Type 0 where
  pub follows : Follows before after
  pub name : after.name ≡ before.name
  pub parts : after.parts ≡ before.parts
  pub high : after.high ≡ before.high
  pub asked : after.asked ≡ before.asked
  pub mine : after.mine ≡ before.mine
  pub sight : before.sight.mark ≤ after.sight.mark

-- a turn in which the state stays, and what is to be fetched next is read
pub record IsPlanned (page ahead : ℕ) (before after : Known LogEntry) (next : Plan) : Type 0 where
  pub found : State
  pub is : IsFound found before
  pub sees : HasSeen found after
  pub plans : next ≡ plan_of found page ahead
  pub serves : Serves found page ahead next

-- the event came to the state, once
pub record IsFed (event : Event) (before after : Known LogEntry) : Type 0 where
  pub found : State
  pub is : IsFound found before
  pub may : MayCome found event
  pub sound : IsSound (events.after found event)
  pub sees : HasSeen (events.after found event) after

-- a page of these rows came of one call of the source: the rows kept before and those given are together within the reach of the want
-- that was seen, and where the source tells its list they are the next ones
pub record BroughtPage (page ahead rows : ℕ) (list : Option (List Row)) (counts now : Counts) (before after : Known LogEntry) : Type 0 where
  pub given : List Row
  pub size : length given ≡ rows
  pub fed : IsFed (event.Page given) before after
  pub no_fault : fault_in before.seen ≡ None
  pub reach : length (rows_in before.seen) + rows ≤ reach_of after.sight.mark page ahead after.name.1
  pub tally : after.tally ≡ before.tally
  pub gave : GaveRows rows counts now
  pub told : IfSome list (λ all. IsPage all (length (rows_in before.seen)) given)

-- the grade of an object came of one call of the source, and where the source tells its list it is the list's
pub record BroughtGrade (object : ℕ) (list : Option (List Row)) (counts now : Counts) (before after : Known LogEntry) : Type 0 where
  pub grade : ℕ
  pub fed : IsFed (event.Grade object grade) before after
  pub tally : after.tally ≡ before.tally
  pub gave : GaveGrade counts now
  pub told : IfSome list (λ all. IsGrade all object (Some grade))

-- the source hasn't the object: where it tells its list, the list hasn't
pub record BroughtMiss (object : ℕ) (list : Option (List Row)) (counts now : Counts) (before after : Known LogEntry) : Type 0 where
  pub fed : IsFed (event.Miss object) before after
  pub tally : after.tally ≡ before.tally
  pub gave : GaveGrade counts now
  pub told : IfSome list (λ all. IsGrade all object None)

-- one call of the source failed so, and one more fail of its kind is counted
pub record BroughtFail (what : FailKind) (counts now : Counts) (before after : Known LogEntry) : Type 0 where
  pub fed : IsFed (event.Fail what) before after
  pub seen : after.seen ≡ before.seen
  pub tally : after.tally ≡ counted what before.tally
  pub gave : GaveNothing counts now
  pub cause : TroubleHasCause counts now (trouble.Fail what)

-- one call of the source, for a page or for the grade of an object, stated the version `other` of the list in place of `had`: that is told once,
-- nothing of the reply is kept, and the count of moves rose
pub record BroughtMove (had other : ℕ) (counts now : Counts) (before after : Known LogEntry) : Type 0 where
  pub object : Option ℕ
  pub fed : IsFed (event.Move object had other) before after
  pub tally : after.tally ≡ before.tally
  pub gave : GaveNothing counts now
  pub cause : TroubleHasCause counts now (trouble.Moved had other)

-- nothing is to be fetched, as far as the pass saw: the state is paused, or no ask is due, and the rows reach as far as the want tells
-- or are at fault
pub record NothingDue (page ahead : ℕ) (known : Known LogEntry) : Type 0 where
  pub asks : known.sight.due ≡ 2
  pub rows : (reach_of known.sight.mark page ahead known.name.1 ≤ length (rows_in known.seen)) ⊎ IsSome (fault_in known.seen)

abbrev pub SawIdle : ℕ → ℕ → Known LogEntry → Type 0
SawIdle page ahead known = (known.sight.due ≡ 0) ⊎ NothingDue page ahead known

-- the state was looked at in one turn, nothing was to be fetched, and the source wasn't called
pub record BroughtNothing (page ahead : ℕ) (counts now : Counts) (before after : Known LogEntry) : Type 0 where
  pub turns : after.turns ≡ before.turns + 1
  pub seen : after.seen ≡ before.seen
  pub tally : after.tally ≡ before.tally
  pub idle : SawIdle page ahead after
  pub gave : now ≡ counts

-- what a turn brings, by its answer
abbrev pub Brings : ℕ → ℕ → Option (List Row) → Counts → Counts → Known LogEntry → Known LogEntry → Turned → Type 0
Brings page ahead list counts now before after (turned.Paged rows) = BroughtPage page ahead rows list counts now before after
Brings page ahead list counts now before after (turned.Graded object) = BroughtGrade object list counts now before after
Brings page ahead list counts now before after (turned.Missed object) = BroughtMiss object list counts now before after
Brings page ahead list counts now before after (turned.Troubled (trouble.Fail what)) = BroughtFail what counts now before after
Brings page ahead list counts now before after (turned.Troubled (trouble.Moved had other)) = BroughtMove had other counts now before after
Brings page ahead list counts now before after turned.Idle = BroughtNothing page ahead counts now before after

-- the rows may be told as a page: no row fault stands, a row is missing, and they are no more than are missing
pub record MayTellPage (given : List Row) (known : Known LogEntry) : Type 0 where
  pub no_fault : fault_in known.seen ≡ None
  pub room : length (rows_in known.seen) < known.name.1
  pub fits : length (rows_in known.seen) + length given ≤ known.name.1

-- a page that is asked for goes on where the rows end, and stays within the list
pub record IsNext (from count : ℕ) (known : Known LogEntry) : Type 0 where
  pub no_fault : fault_in known.seen ≡ None
  pub next : from ≡ length (rows_in known.seen)
  pub some : 1 ≤ count
  pub within : from + count ≤ known.name.1

-- the ask of an object is pending, whatever state is found
pub record MayTellGrade (object : ℕ) (known : Known LogEntry) : Type 0 where
  pub pending : (state : State) → IsFound state known → asked_in state object ≡ Some became.Pending

-- what is to be fetched next may be fetched: a page goes on where the rows end and stays within the reach, and a grade is pending
abbrev pub MayFetch : ℕ → ℕ → Known LogEntry → Plan → Type 0
MayFetch page ahead known plan.Idle = Unit {0}
MayFetch page ahead known (plan.Page from count) = IsNext from count known × (from + count ≤ reach_of known.sight.mark page ahead known.name.1)
MayFetch page ahead known (plan.Grade object) = MayTellGrade object known

-- the event that an answered call for a grade makes, and what the turn answers
abbrev pub settled_by : ℕ → Option ℕ → Event
settled_by object None = event.Miss object
settled_by object (Some grade) = event.Grade object grade

abbrev pub answer_by : ℕ → Option ℕ → Turned
answer_by object None = turned.Missed object
answer_by object (Some grade) = turned.Graded object

-- the event of a call that gave nothing, for the grade of an object or for a page where there is none
abbrev pub troubled_by : Option ℕ → Trouble → Event
troubled_by object (trouble.Fail what) = event.Fail what
troubled_by object (trouble.Moved had now) = event.Move object had now

-- an event that comes of the source, and not of a query
abbrev pub IsOfSource : Event → Type 0
IsOfSource (event.Page rows) = Unit {0}
IsOfSource (event.Grade object grade) = Unit {0}
IsOfSource (event.Miss object) = Unit {0}
IsOfSource (event.Fail what) = Unit {0}
IsOfSource (event.Move object had now) = Unit {0}
IsOfSource _ = ⊥
