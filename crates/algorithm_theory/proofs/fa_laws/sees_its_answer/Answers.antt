use Rattle.algorithm_theory.proofs.FaginTop.{fa_sees_answer}
use Rattle.algorithm_theory.proofs.fa_laws.sees_its_answer.Goals as goal

pub returns : goal.returns
returns c = fa_sees_answer
