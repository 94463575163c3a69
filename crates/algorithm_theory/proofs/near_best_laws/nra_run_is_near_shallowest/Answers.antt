use Rattle.algorithm_theory.proofs.NearBestRuns.{nra_near_shallowest}
use Rattle.algorithm_theory.proofs.near_best_laws.nra_run_is_near_shallowest.Goals as goal

pub returns : goal.returns
returns c = nra_near_shallowest
