-- What contracts see of a world: the states of its sources, and the queries that read them.
use Rattle.std.specs.Prelude.{List}
use Rattle.source_state.specs.State.{State}
use Rattle.query_run.specs.declared.running_query.RunningQuery.{RunningQuery}

-- the states of the sources, by their numbers, and the queries as they stand
pub record WorldState : Type 0 where
  pub states : List State
  pub queries : List RunningQuery

abbrev pub world_of : List State → List RunningQuery → WorldState
world_of states queries = record { states = states; queries = queries }
