-- The turns of a fetcher one after another.
use Rattle.std.specs.Prelude.{◌≡◌, ℕ, Option, List, [], ◌∷◌, IfSome}
use Rattle.ranked_list.specs.declared.row.Row.{Row}
use Rattle.turn_lock.specs.declared.known.Known.{Known}
use Rattle.source_state.specs.declared.entry.LogEntry.{LogEntry}
use Rattle.source_api.specs.declared.counts.Counts.{Counts}
use Rattle.source_api.specs.Counting.{NoneFell}
use Rattle.source_api.specs.Told.{HasEachOnce}
use Rattle.fetcher.specs.declared.turned.Turned.{Turned}
use Rattle.source_api.specs.Calls.{Call}
use Rattle.fetcher.specs.Turning.{Feeds, Brings}
use Rattle.fetcher.specs.Calling.{IsFetchTurn}

-- what a source has counted, and what its feeder knows
pub record Moment : Type 0 where
  pub counts : Counts
  pub known : Known LogEntry

abbrev pub moment : Counts → Known LogEntry → Moment
moment counts known = record { counts = counts; known = known }

-- a turn: what it answered, and the moment after it
pub record OneTurn : Type 0 where
  pub answer : Turned
  pub next : Moment

-- a turn brought what it answered, between two moments
pub record IsTurnOf (page ahead : ℕ) (list : Option (List Row)) (before after : Moment) (answer : Turned) : Type 0 where
  pub brings : Brings page ahead list before.counts after.counts before.known after.known answer
  pub feeds : Feeds before.known after.known
  pub later : NoneFell before.counts after.counts

-- turns one after another, from one moment to another
abbrev pub AreTurns : ℕ → ℕ → Option (List Row) → Moment → List OneTurn → Moment → Type 0
AreTurns page ahead list before [] after = after ≡ before
AreTurns page ahead list before (turn ∷ turns) after = IsTurnOf page ahead list before turn.next turn.answer × AreTurns page ahead list turn.next turns after

-- some turns in their order lead from one moment to another; a list that is told has no object twice
pub record IsFetched (page ahead : ℕ) (list : Option (List Row)) (before after : Moment) : Type 0 where
  pub distinct : IfSome list HasEachOnce
  pub turns : List OneTurn
  pub each : AreTurns page ahead list before turns after

-- the calls that were made of a source, and what its feeder knows
pub record Point : Type 0 where
  pub calls : Option (List Call)
  pub known : Known LogEntry

abbrev pub point : Option (List Call) → Known LogEntry → Point
point calls known = record { calls = calls; known = known }

-- a turn of a fetcher: what it answered, and the point after it
pub record CallTurn : Type 0 where
  pub answer : Turned
  pub next : Point

-- turns one after another, each with the call that its plan named and no other
abbrev pub AreCallTurns : ℕ → ℕ → Point → List CallTurn → Point → Type 0
AreCallTurns page ahead before [] after = after ≡ before
AreCallTurns page ahead before (turn ∷ turns) after =
    IsFetchTurn page ahead before.calls turn.next.calls before.known turn.next.known turn.answer × AreCallTurns page ahead turn.next turns after

-- some turns in their order lead from one point to another: each call of the source is the one that the plan of its turn named
pub record MadeItsCalls (page ahead : ℕ) (before after : Point) : Type 0 where
  pub turns : List CallTurn
  pub each : AreCallTurns page ahead before turns after
