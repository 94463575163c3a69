use Rattle.algorithm_theory.proofs.RestrictedRuns.{taz_run_knows}
use Rattle.algorithm_theory.proofs.restricted_laws.asks_for_what_is_unknown.Goals as goal

pub returns : goal.returns
returns c = taz_run_knows
