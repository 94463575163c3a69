-- The histories of sources, and what never changes of what was read.
use Rattle.std.specs.Prelude.{◌≡◌, Some, List}
use Rattle.turn_lock.specs.Facts.{FactsGrow}
use Rattle.source_state.specs.declared.entry.SourceFault.{SourceFault}
use Rattle.source_state.specs.declared.event.Event.{Event}
use Rattle.source_state.specs.Log.{rows_in, fault_in}
use Rattle.source_state.specs.State.{State, opened, facts_of}
use Rattle.source_state.specs.History.{replayed, AllMayCome}

-- a state is that of a history, each event of which may come after those before it
pub record HasHistory (s : State) : Type 0 where
  pub events : List Event
  pub may : AllMayCome (opened s.list s.count) events
  pub told : s ≡ replayed (opened s.list s.count) events

-- what was read of a source never changes: the log and the asks go on, no count of fails falls, and no row follows a row fault
pub record GoesOn (before after : State) : Type 0 where
  pub grows : FactsGrow (facts_of before) (facts_of after)
  pub closed : (fault : SourceFault) → fault_in before.log ≡ Some fault → rows_in after.log ≡ rows_in before.log
