use Rattle.algorithm_theory.proofs.WithinReading.{theta_agrees, early_agrees}
use Rattle.algorithm_theory.proofs.within_laws.read_the_table.Goals as goal

pub returns-clause-within : goal.returns-clause-within
returns-clause-within c = theta_agrees

pub returns-clause-early : goal.returns-clause-early
returns-clause-early c = early_agrees
