use Rattle.topk_theory.proofs.Adversary.{completed_is}
use Rattle.topk_theory.proofs.laws_adversary.completes_with_any_choice.Goals as goal

pub returns : goal.returns
returns c = completed_is
