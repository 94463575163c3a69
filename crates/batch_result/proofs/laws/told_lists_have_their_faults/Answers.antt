use Rattle.batch_result.proofs.FaultLaws.{told_causes}
use Rattle.batch_result.proofs.laws.told_lists_have_their_faults.Goals as goal

pub returns : goal.returns
returns c = λ run batch ran. told_causes run batch ran
