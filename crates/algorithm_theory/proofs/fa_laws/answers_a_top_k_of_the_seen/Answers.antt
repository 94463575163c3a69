use Rattle.algorithm_theory.proofs.FaginTop.{fa_answer_top}
use Rattle.algorithm_theory.proofs.fa_laws.answers_a_top_k_of_the_seen.Goals as goal

pub returns : goal.returns
returns c = fa_answer_top
