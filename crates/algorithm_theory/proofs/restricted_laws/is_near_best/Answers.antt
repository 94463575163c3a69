use Rattle.algorithm_theory.proofs.RestrictedNearBest.{taz_near_best}
use Rattle.algorithm_theory.proofs.restricted_laws.is_near_best.Goals as goal

pub returns : goal.returns
returns c = taz_near_best
