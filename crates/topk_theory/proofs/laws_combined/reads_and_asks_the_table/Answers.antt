use Rattle.topk_theory.proofs.CombinedLaws.{run_agrees}
use Rattle.topk_theory.proofs.laws_combined.reads_and_asks_the_table.Goals as goal

pub returns : goal.returns
returns c = run_agrees
