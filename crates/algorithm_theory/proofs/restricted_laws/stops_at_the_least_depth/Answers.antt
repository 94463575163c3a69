use Rattle.algorithm_theory.proofs.RestrictedLeast.{taz_depth_is_least}
use Rattle.algorithm_theory.proofs.restricted_laws.stops_at_the_least_depth.Goals as goal

pub returns : goal.returns
returns c = taz_depth_is_least
