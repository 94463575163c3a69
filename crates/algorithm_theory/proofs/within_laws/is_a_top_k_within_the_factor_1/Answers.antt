use Rattle.algorithm_theory.proofs.Parting.{exact_is_top, top_is_exact, exact_fixes, fixes_exact}
use Rattle.algorithm_theory.proofs.within_laws.is_a_top_k_within_the_factor_1.Goals as goal

pub returns-clause-top : goal.returns-clause-top
returns-clause-top c = λ V k D Y. (exact_is_top V k D Y, top_is_exact V k D Y)

pub returns-clause-fixed : goal.returns-clause-fixed
returns-clause-fixed c = λ V k m n A Y. (exact_fixes V k m n A Y, fixes_exact V k m n A Y)
