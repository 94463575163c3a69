use Rattle.algorithm_theory.proofs.RestrictedRuns.{taz_run_long}
use Rattle.algorithm_theory.proofs.restricted_laws.reads_so_much.Goals as goal

pub returns : goal.returns
returns c = taz_run_long
