use Rattle.std.proofs.Common.{◌≡◌}
use Rattle.made_inputs.specs.Made.{state_after}
use Rattle.made_inputs.proofs.Making.{rows_after}
use Rattle.made_inputs.proofs.table.next_rows.Given as goal

abbrev pub invariant-loop-place : goal.invariant-loop-place
invariant-loop-place l = (l.rows.items ≡ rows_after l.fn.generator.state l.place) × (l.generator.state ≡ state_after l.fn.generator.state l.place)
