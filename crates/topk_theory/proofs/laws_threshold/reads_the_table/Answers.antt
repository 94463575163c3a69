use Rattle.topk_theory.proofs.ThresholdLaws.{agreeing_run}
use Rattle.topk_theory.proofs.laws_threshold.reads_the_table.Goals as goal

pub returns : goal.returns
returns c = agreeing_run
