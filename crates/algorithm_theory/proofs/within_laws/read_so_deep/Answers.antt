use Rattle.algorithm_theory.proofs.WithinReading.{theta_deep, early_deep}
use Rattle.algorithm_theory.proofs.within_laws.read_so_deep.Goals as goal

pub returns-clause-within : goal.returns-clause-within
returns-clause-within c = theta_deep

pub returns-clause-early : goal.returns-clause-early
returns-clause-early c = early_deep
