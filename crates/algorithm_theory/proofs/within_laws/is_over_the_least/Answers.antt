use Rattle.algorithm_theory.proofs.Factors.{least_of_some, factor_fair}
use Rattle.algorithm_theory.proofs.within_laws.is_over_the_least.Goals as goal

pub returns-clause-least : goal.returns-clause-least
returns-clause-least c = least_of_some

pub returns-clause-factor : goal.returns-clause-factor
returns-clause-factor c = factor_fair
