use Rattle.topk_theory.proofs.CombinedChoice.{one_choice}
use Rattle.topk_theory.proofs.laws_combined.chooses_one_object.Goals as goal

pub returns : goal.returns
returns c = one_choice
