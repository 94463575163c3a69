use Rattle.nra_core.proofs.StopLaws.{high_stays_within}
use Rattle.nra_core.proofs.laws.what_is_given_up_stays_given_up.Goals as goal

pub returns : goal.returns
returns c = high_stays_within
