use Rattle.algorithm_theory.proofs.Nearness.{theta_sees, early_sees}
use Rattle.algorithm_theory.proofs.within_laws.see_their_answers.Goals as goal

pub returns-clause-within : goal.returns-clause-within
returns-clause-within c = theta_sees

pub returns-clause-early : goal.returns-clause-early
returns-clause-early c = early_sees
