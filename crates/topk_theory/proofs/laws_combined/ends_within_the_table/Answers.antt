use Rattle.topk_theory.proofs.CombinedLaws.{run_within}
use Rattle.topk_theory.proofs.laws_combined.ends_within_the_table.Goals as goal

pub returns : goal.returns
returns c = run_within
