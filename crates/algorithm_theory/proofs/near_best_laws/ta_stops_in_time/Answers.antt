use Rattle.algorithm_theory.proofs.Threshold.{ta_stops_in_time}
use Rattle.algorithm_theory.proofs.near_best_laws.ta_stops_in_time.Goals as goal

pub returns : goal.returns
returns c = ta_stops_in_time
