use Rattle.topk_theory.proofs.CombinedLaws.{ca_answer_top}
use Rattle.topk_theory.proofs.laws_combined.answers_a_top_k_by_aggregate.Goals as goal

pub returns : goal.returns
returns c = ca_answer_top
