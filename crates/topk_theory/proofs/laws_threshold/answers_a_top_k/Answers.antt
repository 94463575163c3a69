use Rattle.topk_theory.proofs.ThresholdLaws.{top_answer}
use Rattle.topk_theory.proofs.laws_threshold.answers_a_top_k.Goals as goal

pub returns : goal.returns
returns c = top_answer
