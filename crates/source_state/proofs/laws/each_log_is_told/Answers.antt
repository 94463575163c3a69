use Rattle.source_state.proofs.LogTold.{log_is_told}
use Rattle.source_state.proofs.laws.each_log_is_told.Goals as goal

pub returns : goal.returns
returns c = log_is_told
