use Rattle.topk_theory.proofs.ThresholdLaws.{tame_run}
use Rattle.topk_theory.proofs.laws_threshold.guesses_nothing.Goals as goal

pub returns : goal.returns
returns c = tame_run
