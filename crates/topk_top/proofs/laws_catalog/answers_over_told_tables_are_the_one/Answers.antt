use Rattle.topk_top.proofs.OneOver.{one_over_told}
use Rattle.topk_top.proofs.laws_catalog.answers_over_told_tables_are_the_one.Goals as goal

pub returns : goal.returns
returns c = λ r outcomes run. one_over_told r outcomes run
