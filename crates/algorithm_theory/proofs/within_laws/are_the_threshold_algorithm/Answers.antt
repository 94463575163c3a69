use Rattle.algorithm_theory.proofs.WithinReading.{theta_same, early_same}
use Rattle.algorithm_theory.proofs.within_laws.are_the_threshold_algorithm.Goals as goal

pub returns-clause-within : goal.returns-clause-within
returns-clause-within c = theta_same

pub returns-clause-early : goal.returns-clause-early
returns-clause-early c = early_same
