use Rattle.algorithm_theory.proofs.NearBestRuns.{ta_near_best}
use Rattle.algorithm_theory.proofs.near_best_laws.ta_run_is_near_best.Goals as goal

pub returns : goal.returns
returns c = ta_near_best
