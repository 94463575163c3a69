use Rattle.source_state.proofs.Drawing.{drawn_consistent, next_consistent}
use Rattle.source_state.proofs.laws.what_is_drawn_is_consistent.Goals as goal

pub returns-clause-drawn : goal.returns-clause-drawn
returns-clause-drawn c = drawn_consistent

pub returns-clause-next : goal.returns-clause-next
returns-clause-next c = next_consistent
