use Rattle.algorithm_theory.proofs.FaginSame.{run_same, answer_same}
use Rattle.algorithm_theory.proofs.fa_laws.is_the_same_on_each_table_that_agrees.Goals as goal

pub returns : goal.returns
returns c = λ V k n D E asked agrees. (run_same k n D E (record { asked = asked; agrees = agrees }), answer_same V k n D E (record { asked = asked; agrees = agrees }))
