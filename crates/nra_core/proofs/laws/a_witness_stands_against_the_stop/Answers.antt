use Rattle.nra_core.proofs.Candidates.{not_within_with_witness}
use Rattle.nra_core.proofs.laws.a_witness_stands_against_the_stop.Goals as goal

pub returns : goal.returns
returns c = not_within_with_witness
