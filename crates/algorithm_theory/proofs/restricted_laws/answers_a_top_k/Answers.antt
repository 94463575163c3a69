use Rattle.algorithm_theory.proofs.RestrictedTop.{taz_answer_top}
use Rattle.algorithm_theory.proofs.restricted_laws.answers_a_top_k.Goals as goal

pub returns : goal.returns
returns c = taz_answer_top
