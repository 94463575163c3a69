use Rattle.algorithm_theory.proofs.RestrictedRuns.{taz_run_depth}
use Rattle.algorithm_theory.proofs.restricted_laws.reads_so_deep.Goals as goal

pub returns : goal.returns
returns c = taz_run_depth
