use Rattle.std.proofs.Common.{sym, subst}
use Rattle.turn_lock.specs.Facts.{FactsGrow}
use Rattle.source_state.specs.declared.entry.LogEntry.TheVariants.{Fault}
use Rattle.source_state.specs.State.{State, facts_of}
use Rattle.source_state.proofs.Growing.{broken_by, logged_grows, rows_grow}
use Rattle.source_state.proofs.state.SourceState.add_page.Goals as goal

pub returns-then-is_empty-clause-applied : goal.returns-then-is_empty-clause-applied
returns-then-is_empty-clause-applied c = broken_by c.args.self.now c.add_fault.new.self c.short_list-fault.result c.requires.no_fault c.add_fault.ensures.state

pub returns-then-is_empty-clause-grows : goal.returns-then-is_empty-clause-grows
returns-then-is_empty-clause-grows c =
    subst (λ (t : State). FactsGrow (facts_of c.args.self.now) (facts_of t)) (sym c.add_fault.ensures.state) (logged_grows c.args.self.now (Fault c.short_list-fault.result))

pub returns-clause-grows : goal.returns-clause-grows
returns-clause-grows c =
    subst (λ (t : State). FactsGrow (facts_of c.args.self.now) (facts_of t)) (sym c.add_rows.ensures.state) (rows_grow c.args.self.now c.args.rows.now)
