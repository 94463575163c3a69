use Rattle.algorithm_theory.proofs.RestrictedNearBest.{taz_stops_in_time}
use Rattle.algorithm_theory.proofs.restricted_laws.stops_in_time.Goals as goal

pub returns : goal.returns
returns c = taz_stops_in_time
