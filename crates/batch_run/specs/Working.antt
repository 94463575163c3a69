-- What a worker does with the queries that it draws.
use Rattle.std.specs.Prelude.{◌≡◌, ◌≤◌, ◌<◌, ◌∷◌, [], ℕ, min, Option, Some, None, List, All, Contains, IfSome, length, map, count_by}
use Rattle.std.specs.List.{flat_map, slice_index_or}
use Rattle.atomic_table.specs.Seated.{TableId}
use Rattle.turn_lock.specs.Facts.{AtMost}
use Rattle.tickets.specs.declared.placing.Done.{Done}
use Rattle.tickets.specs.Draws.{times}
use Rattle.source_api.specs.declared.source.FailKind.TheVariants as kind
use Rattle.source_state.specs.State.{last_count}
use Rattle.source_pool.specs.declared.hold.Hold.{Hold}
use Rattle.source_pool.specs.Passes.{hold_at, IsPassOf}
use Rattle.source_pool.specs.Looks.{IsWithin}
use Rattle.query_core.specs.declared.ready.Ready.{Ready}
use Rattle.query_core.specs.Ready.{IsReady}
use Rattle.query_run.specs.declared.ended.Ended.{Ended}
use Rattle.query_run.specs.declared.running_query.RunningQuery.{RunningQuery}
use Rattle.query_run.specs.Inquiries.{source_needed}
use Rattle.query_run.specs.Kept.{IsServed}
use Rattle.query_run.specs.Made.{IsOf}
use Rattle.query_run.specs.Endings.{EndsAs, IsRight}
use Rattle.query_run.specs.Seen.{states_seen}
use Rattle.query_run.specs.Advancing.{WaitsForNothing, HasSourcesIn, KnowsAll}
use Rattle.query_run.specs.Failing.{LookRefused}
use Rattle.batch_run.specs.declared.work.Worker.{Worker}
use Rattle.batch_result.specs.Using.{is_refused_for, IsWantedBy, IsNamedBy}
use Rattle.batch_result.specs.Batches.{IsSpared}

-- a query as it stood at its end, and its ending
abbrev pub End : Type 0
End = RunningQuery × Ended

-- a ready query ended so: what it read was drawn from what the pass knew then, and since then the pass came to know more at most; where it is refused, it
-- is so by the turns that the pass took from what it held first on, and for no fail that the pass knew of by then
pub record IsEndOf (holds : List Hold) (ready : Ready) (end : End) : Type 0 where
  pub of : IsOf ready end.0
  pub ends : EndsAs end.0 end.1
  pub right : IsRight ready end.1
  pub spared : IsSpared end.0
  pub first_held : List Hold
  pub then_held : List Hold
  pub served : IsServed (states_seen then_held) end.0
  pub later : AtMost (hold_at first_held (source_needed end.0)).pass.1.tally end.0.waiting.noted
  pub why : LookRefused end.0 first_held then_held end.0.refusal
  pub since : KnowsAll then_held holds

-- a ready query stood so, when it ended or was let go: what it read was drawn from what the pass knew then, and since then the pass came to know more at most
pub record IsStood (holds : List Hold) (ready : Ready) (q : RunningQuery) : Type 0 where
  pub of : IsOf ready q
  pub then_held : List Hold
  pub served : IsServed (states_seen then_held) q
  pub since : KnowsAll then_held holds

-- what these queries did of a source through a pass: it was raised no further than is certain for one of them, each ask that was added is for an object
-- whose grade is certain for one of them, and each of them that was refused for a fail was shown one, which the pass knows of
pub record DidOf (queries : List RunningQuery) (source : ℕ) (hold : Hold) : Type 0 where
  pub rows : IsWantedBy queries source hold.pass.1.high
  pub mine : (object : ℕ) → Contains hold.pass.1.mine object → IsNamedBy queries source object
  pub failed : min (count_by (is_refused_for kind.Failed source) queries) last_count ≤ hold.shown.failed
  pub garbled : min (count_by (is_refused_for kind.Garbled source) queries) last_count ≤ hold.shown.garbled
  pub within : IsWithin hold

-- a query that began: its place, how it stood when it ended or was let go, and how it ended, if it did
pub record Run : Type 0 where
  pub place : ℕ
  pub stood : RunningQuery
  pub ended : Option Ended

-- the query of this place stood so, and ended so if it did
pub record IsRunOf (holds : List Hold) (readies : List Ready) (run : Run) : Type 0 where
  pub there : run.place < length readies
  pub stood : (default : Ready) → IsStood holds (slice_index_or readies run.place default) run.stood
  pub ended : (default : Ready) → IfSome run.ended (λ ended. IsEndOf holds (slice_index_or readies run.place default) (run.stood, ended))

-- how these queries ended, those that did, each with its place
abbrev pub ended_at : ℕ → Option Ended → List (Done Ended)
ended_at place None = []
ended_at place (Some ended) = record { place = place; answer = ended } ∷ []

abbrev pub ended_of : List Run → List (Done Ended)
ended_of runs = flat_map (λ (run : Run). ended_at run.place run.ended) runs

abbrev pub places_of : List Run → List ℕ
places_of runs = map (λ (run : Run). run.place) runs

abbrev pub stood_of : List Run → List RunningQuery
stood_of runs = map (λ (run : Run). run.stood) runs

-- a worker so far: of the queries that it drew these began, each no more often than it was drawn; they did this, and it keeps how they ended
pub record HasWorked (readies : List Ready) (worker : Worker) : Type 0 where
  pub runs : List Run
  pub each : All (IsRunOf worker.pass readies) runs
  pub drawn : (number : ℕ) → times number (places_of runs) ≤ times number worker.draws.1.drawn
  pub did : (source : ℕ) → DidOf (stood_of runs) source (hold_at worker.pass source)
  pub ended : worker.ended.items ≡ ended_of runs

-- a worker with a pass of this pool, which waits for nothing, and one part of these tickets: it may run any of these queries, and has run some
pub record IsAtWork (pool : List TableId) (tickets : TableId) (readies : List Ready) (worker : Worker) : Type 0 where
  pub ready : All IsReady readies
  pub own : IsPassOf pool worker.pass
  pub rests : WaitsForNothing worker.pass
  pub sources : All (HasSourcesIn worker.pass) readies
  pub draws : (worker.draws.0 ≡ tickets) × (worker.draws.1.parts ≡ 1)
  pub worked : HasWorked readies worker

-- a worker later on
pub record Worked (pool : List TableId) (tickets : TableId) (readies : List Ready) (before after : Worker) : Type 0 where
  pub at_work : IsAtWork pool tickets readies after
  pub knows : KnowsAll before.pass after.pass

-- all workers, at their places
pub record AllWorked (pool : List TableId) (tickets : TableId) (readies : List Ready) (before after : List Worker) : Type 0 where
  pub size : length after ≡ length before
  pub each : (i : ℕ) (d : Worker) → i < length before → Worked pool tickets readies (slice_index_or before i d) (slice_index_or after i d)
