-- What a step does to a world, and when it is lawful.
use Rattle.std.specs.Prelude.{◌≡◌, ◌<◌, ℕ, Bool, true, false, Option, Some, None, List, length, slice_get}
use Rattle.std.specs.List.{slice_set}
use Rattle.source_state.specs.declared.event.Event.{Event}
use Rattle.source_state.specs.declared.event.Event.TheVariants as event
use Rattle.source_state.specs.State.{State, state_at}
use Rattle.source_state.specs.Events.{after, MayCome}
use Rattle.query_run.specs.declared.running_query.RunningQuery.{RunningQuery}
use Rattle.test_worlds.specs.declared.step.Step.{Step}
use Rattle.test_worlds.specs.declared.step.Step.TheVariants.{Page, Grade, Miss, Fail, Move, Turn}
use Rattle.query_run.specs.Inquiries.{is_ended}
use Rattle.test_worlds.specs.Worlds.{WorldState}
use Rattle.query_run.specs.Turns.{Turns}

-- the states after an event of a source
abbrev pub with_event : List State → ℕ → Event → List State
with_event states source e = slice_set states source (after (state_at states source) e)

-- an event may come to a source that is there
abbrev pub MayComeTo : List State → ℕ → Event → Type 0
MayComeTo states source e = (source < length states) × MayCome (state_at states source) e

-- there is such a query, and it hasn't ended
abbrev pub IsOpen : Option RunningQuery → Type 0
IsOpen None = ⊥
IsOpen (Some q) = is_ended q ≡ false

-- a step is lawful: what comes of a source may come in its state, and a query that has ended takes no turn
abbrev pub MayStep : WorldState → Step → Type 0
MayStep w (Page source rows) = MayComeTo w.states source (event.Page rows)
MayStep w (Grade source object grade) = MayComeTo w.states source (event.Grade object grade)
MayStep w (Miss source object) = MayComeTo w.states source (event.Miss object)
MayStep w (Fail source what) = MayComeTo w.states source (event.Fail what)
MayStep w (Move source object had now) = MayComeTo w.states source (event.Move object had now)
MayStep w (Turn query) = IsOpen (slice_get w.queries query)

-- a test tells whether something holds
pub record IsTestOf (test : Bool) (P : Type 0) : Type 0 where
  pub holds : test ≡ true → P
  pub tells : P → test ≡ true

-- the query of this number takes a turn, and the others stay
pub record TakesTurn (query : ℕ) (before after : WorldState) : Type 0 where
  pub q : RunningQuery
  pub r : RunningQuery
  pub is : slice_get before.queries query ≡ Some q
  pub turns : Turns before.states after.states q r
  pub others : after.queries ≡ slice_set before.queries query r

-- what a step does: an event of its source, or a turn of its query
abbrev pub Steps : Step → WorldState → WorldState → Type 0
Steps (Page source rows) before after = after ≡ record before { states = with_event before.states source (event.Page rows) }
Steps (Grade source object grade) before after = after ≡ record before { states = with_event before.states source (event.Grade object grade) }
Steps (Miss source object) before after = after ≡ record before { states = with_event before.states source (event.Miss object) }
Steps (Fail source what) before after = after ≡ record before { states = with_event before.states source (event.Fail what) }
Steps (Move source object had now) before after = after ≡ record before { states = with_event before.states source (event.Move object had now) }
Steps (Turn query) before after = TakesTurn query before after
