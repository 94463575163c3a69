use Rattle.algorithm_theory.proofs.FaginLeast.{fa_depth_is_least}
use Rattle.algorithm_theory.proofs.fa_laws.stops_at_the_least_common_depth.Goals as goal

pub returns : goal.returns
returns c = fa_depth_is_least
