use Rattle.algorithm_theory.proofs.WithinReading.{theta_begins, early_begins}
use Rattle.algorithm_theory.proofs.within_laws.read_how_the_threshold_algorithm_begins.Goals as goal

pub returns-clause-within : goal.returns-clause-within
returns-clause-within c = theta_begins

pub returns-clause-early : goal.returns-clause-early
returns-clause-early c = early_begins
