use Rattle.topk_theory.proofs.Adversary.{agrees_over}
use Rattle.topk_theory.proofs.laws_adversary.some_table_agrees_over_each_set.Goals as goal

pub returns : goal.returns
returns c = agrees_over
