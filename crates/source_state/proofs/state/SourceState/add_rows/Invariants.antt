use Rattle.source_state.specs.Keeping.{RowsLeft}
use Rattle.source_state.proofs.state.SourceState.add_rows.Given as goal

abbrev pub invariant-loop-place : goal.invariant-loop-place
invariant-loop-place l = RowsLeft l.rows l.place l.fn.self l.self
