use Rattle.topk_theory.proofs.NoRandomLaws.{nra_answer_top}
use Rattle.topk_theory.proofs.laws_no_random.answers_a_top_k_by_bounds.Goals as goal

pub returns : goal.returns
returns c = nra_answer_top
