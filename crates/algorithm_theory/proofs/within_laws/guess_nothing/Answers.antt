use Rattle.algorithm_theory.proofs.WithinReading.{theta_tame, early_tame}
use Rattle.algorithm_theory.proofs.within_laws.guess_nothing.Goals as goal

pub returns-clause-within : goal.returns-clause-within
returns-clause-within c = theta_tame

pub returns-clause-early : goal.returns-clause-early
returns-clause-early c = early_tame
