use Rattle.source_state.proofs.Told.{history_told}
use Rattle.source_state.proofs.laws.each_history_is_told.Goals as goal

pub returns : goal.returns
returns c = history_told
