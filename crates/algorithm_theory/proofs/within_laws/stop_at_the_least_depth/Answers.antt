use Rattle.algorithm_theory.proofs.WithinDepths.{theta_is_least, early_is_least}
use Rattle.algorithm_theory.proofs.within_laws.stop_at_the_least_depth.Goals as goal

pub returns-clause-within : goal.returns-clause-within
returns-clause-within c = theta_is_least

pub returns-clause-early : goal.returns-clause-early
returns-clause-early c = early_is_least
