use Rattle.algorithm_theory.proofs.Shallow.{nra_stops_in_time}
use Rattle.algorithm_theory.proofs.near_best_laws.nra_stops_in_time.Goals as goal

pub returns : goal.returns
returns c = nra_stops_in_time
