-- Queries that are ready, and sources before any event.
use Rattle.std.specs.Prelude.{◌≡◌, ◌<◌, ◌+◌, ℕ, None, List, [], ◌∷◌, All, length, unwrap_or}
use Rattle.std.specs.List.{slice_index_or}
use Rattle.machine_base.specs.Machine.{MachineState, IsBegun}
use Rattle.source_state.specs.State.{State, opened}
use Rattle.query_core.specs.declared.ready.Ready.{Ready}
use Rattle.query_core.specs.Ready.{IsReady, method_of_ready}
use Rattle.query_text.specs.Costs.{costs_in_force}
use Rattle.query_core.specs.Driving.{Continues}
use Rattle.query_core.specs.Machines.{method_of, state_of, MakesItsRun, IsMachineFor}
use Rattle.query_run.specs.declared.running_query.RunningQuery.{RunningQuery}

-- the query is ready, and its lists are sources that have as many objects as it counts
pub record IsReadyFor (counts : List ℕ) (ready : Ready) : Type 0 where
  pub is : IsReady ready
  pub sources : All (λ source. (source < length counts) × (slice_index_or counts source 0 ≡ ready.count)) ready.sources.items

-- the states of sources with these counts, numbered from one on, before any event
abbrev pub opened_from : ℕ → List ℕ → List State
opened_from first [] = []
opened_from first (count ∷ counts) = opened first count ∷ opened_from (first + 1) counts

-- the query is one that is ready, some accesses on
pub record IsOf (ready : Ready) (q : RunningQuery) : Type 0 where
  pub is : IsReady ready
  pub first : MachineState
  pub begun : IsBegun ready.query.expr ready.query.k ready.count (unwrap_or ready.query.room ready.count) (costs_in_force ready.query) first
  pub goes : Continues first (state_of q.machine)
  pub method : method_of q.machine ≡ method_of_ready ready
  pub sources : q.sources.items ≡ ready.sources.items

-- the query is one that is ready, before any access; it waits for nothing and isn't refused
pub record IsFresh (ready : Ready) (q : RunningQuery) : Type 0 where
  pub is : IsReady ready
  pub machine : IsMachineFor ready q.machine
  pub run : MakesItsRun q.machine
  pub sources : q.sources.items ≡ ready.sources.items
  pub waits : q.waiting.need ≡ None
  pub refusal : q.refusal ≡ None
