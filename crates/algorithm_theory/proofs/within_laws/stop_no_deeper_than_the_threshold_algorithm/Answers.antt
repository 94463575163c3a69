use Rattle.algorithm_theory.proofs.WithinDepths.{theta_no_deeper, early_no_deeper}
use Rattle.algorithm_theory.proofs.within_laws.stop_no_deeper_than_the_threshold_algorithm.Goals as goal

pub returns-clause-within : goal.returns-clause-within
returns-clause-within c = theta_no_deeper

pub returns-clause-early : goal.returns-clause-early
returns-clause-early c = early_no_deeper
