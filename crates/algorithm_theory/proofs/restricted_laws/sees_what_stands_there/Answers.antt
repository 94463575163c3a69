use Rattle.algorithm_theory.proofs.RestrictedRuns.{taz_run_sees}
use Rattle.algorithm_theory.proofs.restricted_laws.sees_what_stands_there.Goals as goal

pub returns : goal.returns
returns c = taz_run_sees
