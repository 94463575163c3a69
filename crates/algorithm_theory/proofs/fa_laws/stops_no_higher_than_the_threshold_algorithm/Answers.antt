use Rattle.algorithm_theory.proofs.FaginLeast.{ta_is_no_deeper}
use Rattle.algorithm_theory.proofs.fa_laws.stops_no_higher_than_the_threshold_algorithm.Goals as goal

pub returns : goal.returns
returns c = ta_is_no_deeper
