-- What every world keeps, whatever its steps were.
use Rattle.std.specs.Prelude.{◌≡◌, ◌<◌, ℕ, All, length}
use Rattle.std.specs.List.{AllZip}
use Rattle.source_state.specs.State.{IsSound, state_at}
use Rattle.test_worlds.specs.Worlds.{WorldState}
use Rattle.query_run.specs.Histories.{HasHistory, GoesOn}
use Rattle.query_run.specs.Kept.{IsServed, ReadsOn}

-- what every world keeps
pub record IsWorld (w : WorldState) : Type 0 where
  pub histories : All HasHistory w.states
  pub sound : All IsSound w.states
  pub queries : All (IsServed w.states) w.queries

-- a world later on: it has as many sources and queries, and what was read of a source, and by a query, never changes
pub record IsAfter (before after : WorldState) : Type 0 where
  pub sources : length after.states ≡ length before.states
  pub queries : length after.queries ≡ length before.queries
  pub goes : (source : ℕ) → source < length before.states → GoesOn (state_at before.states source) (state_at after.states source)
  pub reads : AllZip ReadsOn before.queries after.queries
