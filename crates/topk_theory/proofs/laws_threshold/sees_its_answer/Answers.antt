use Rattle.topk_theory.proofs.ThresholdLaws.{seen_answer}
use Rattle.topk_theory.proofs.laws_threshold.sees_its_answer.Goals as goal

pub returns : goal.returns
returns c = seen_answer
