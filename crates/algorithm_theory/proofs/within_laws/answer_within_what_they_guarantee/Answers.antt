use Rattle.algorithm_theory.proofs.Nearness.{theta_within, early_within}
use Rattle.algorithm_theory.proofs.within_laws.answer_within_what_they_guarantee.Goals as goal

pub returns-clause-within : goal.returns-clause-within
returns-clause-within c = theta_within

pub returns-clause-early : goal.returns-clause-early
returns-clause-early c = early_within
