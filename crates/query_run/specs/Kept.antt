-- What every query keeps, whatever its turns were.
use Rattle.std.specs.Prelude.{◌≡◌, ◌<◌, ℕ, true, Some, List, All, length}
use Rattle.ranked_list.specs.declared.need.Need.{Need}
use Rattle.topk_theory.specs.Transcript.{Begins}
use Rattle.source_state.specs.State.{State, state_at}
use Rattle.query_core.specs.Driving.{Continues, IsFedFrom}
use Rattle.query_core.specs.Machines.{method_of, state_of, MakesItsRun}
use Rattle.query_run.specs.declared.running_query.RunningQuery.{RunningQuery}
use Rattle.query_run.specs.Inquiries.{told_to, needed, is_ended}
use Rattle.query_run.specs.Causes.{IsRefusedForCause}

-- each list of the query has a source, which has as many objects as the query counts
abbrev pub IsSourceOf : List State → ℕ → ℕ → Type 0
IsSourceOf states count source = (source < length states) × ((state_at states source).count ≡ count)

pub record HasSources (states : List State) (q : RunningQuery) : Type 0 where
  pub many : length q.sources.items ≡ (state_of q.machine).log.lists
  pub each : All (IsSourceOf states (state_of q.machine).log.count) q.sources.items

-- what every query keeps: its transcript is how the run of its algorithm begins on every table that agrees with it, and it needs what
-- comes next there; its accesses are drawn from the logs of its sources; it waits for nothing but its need; a refusal has its cause
pub record IsServed (states : List State) (q : RunningQuery) : Type 0 where
  pub sources : HasSources states q
  pub run : MakesItsRun q.machine
  pub drawn : IsFedFrom (told_to states q) (state_of q.machine)
  pub waits : (need : Need) → q.waiting.need ≡ Some need → need ≡ needed q
  pub cause : IsRefusedForCause states q

-- a query later on: it asks the same of the same sources by the same algorithm, its transcript goes on, and once it has ended it stays
pub record ReadsOn (before after : RunningQuery) : Type 0 where
  pub sources : after.sources.items ≡ before.sources.items
  pub method : method_of after.machine ≡ method_of before.machine
  pub goes : Continues (state_of before.machine) (state_of after.machine)
  pub read : Begins (state_of before.machine).log.accesses (state_of after.machine).log.accesses
  pub ended : is_ended before ≡ true → after ≡ before
