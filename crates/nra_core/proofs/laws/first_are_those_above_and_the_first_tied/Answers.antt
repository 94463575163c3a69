use Rattle.nra_core.proofs.EndingLaws.{first_in_parts}
use Rattle.nra_core.proofs.laws.first_are_those_above_and_the_first_tied.Goals as goal

pub returns : goal.returns
returns c = first_in_parts
