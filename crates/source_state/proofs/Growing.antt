-- Each event lets the facts grow.
use Rattle.std.proofs.Common.{◌≡◌, Option, Some, None, List, [], ◌∷◌, refl, le_refl, ℕ, ◌∙◌, ap}
use Rattle.ranked_list.specs.declared.row.Row.{Row}
use Rattle.turn_lock.specs.Facts.{IsFrontOf, FactsGrow}
use Rattle.turn_lock.proofs.Growth.{begins_same, begins_more, at_most_same, grows_same, grows_on}
use Rattle.source_state.specs.declared.ask.Ask.{Ask}
use Rattle.source_state.specs.declared.entry.LogEntry.{LogEntry}
use Rattle.source_state.specs.declared.entry.LogEntry.TheVariants.{Kept, Settled, Fault}
use Rattle.source_state.specs.declared.entry.Settling.TheVariants.{Bad}
use Rattle.source_state.specs.declared.entry.SourceFault.{SourceFault}
use Rattle.source_state.specs.declared.event.Applied.TheVariants.{Broken}
use Rattle.source_state.specs.Log.{rows_in, fault_in}
use Rattle.source_state.specs.Asks.{ask_of}
use Rattle.source_state.specs.State.{State, asks_of, row_fault, facts_of}
use Rattle.source_state.specs.Events.{logged, one_asked, with_ask, row_or, with_rows, moved, IsApplied}
use Rattle.source_state.proofs.LogLaws.{fault_first}

pub logged_grows : (s : State) (entry : LogEntry) → FactsGrow (facts_of s) (facts_of (logged s entry))
logged_grows s entry = record { name = refl; log = begins_more s.log (entry ∷ []); asks = begins_same s.asks; mark = le_refl _; tally = at_most_same s.tally }

asked_begins : (found : Option Ask) (object : ℕ) (asks : List ℕ) → IsFrontOf asks (one_asked found object asks)
asked_begins None object asks = begins_more asks (object ∷ [])
asked_begins (Some ask) object asks = begins_same asks

pub ask_grows : (s : State) (object : ℕ) → FactsGrow (facts_of s) (facts_of (with_ask s object))
ask_grows s object = record { name = refl; log = begins_same s.log; asks = asked_begins (ask_of (asks_of s) object) object s.asks; mark = le_refl _; tally = at_most_same s.tally }

row_grows : (o : Option SourceFault) (s : State) (row : Row) (next : State → State) → ((t : State) → FactsGrow (facts_of t) (facts_of (next t)))
    → FactsGrow (facts_of s) (facts_of (row_or o s row next))
row_grows None s row next h = grows_on (logged_grows s (Kept row)) (h (logged s (Kept row)))
row_grows (Some fault) s row next h = logged_grows s (Fault fault)

pub rows_grow : (s : State) (rows : List Row) → FactsGrow (facts_of s) (facts_of (with_rows s rows))
rows_grow s [] = grows_same (facts_of s)
rows_grow s (row ∷ rows) = row_grows (row_fault (rows_in s.log) (asks_of s) row) s row (λ t. with_rows t rows) (λ t. rows_grow t rows)

pub moved_grows : (s : State) (object : Option ℕ) (fault : SourceFault) → FactsGrow (facts_of s) (facts_of (moved s object fault))
moved_grows s None fault = logged_grows s (Fault fault)
moved_grows s (Some object) fault = logged_grows s (Settled object (Bad fault))

-- a state that sets its row fault breaks
pub broken_by : (s t : State) (fault : SourceFault) → fault_in s.log ≡ None → t ≡ logged s (Fault fault) → IsApplied s t Broken
broken_by s t fault none e = (none, fault, ap (λ (u : State). fault_in u.log) e ∙ fault_first s.log fault none)
