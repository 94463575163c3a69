use Rattle.topk_theory.proofs.Adversary.{holds_against}
use Rattle.topk_theory.proofs.laws_adversary.bounds_are_reached_in_one_table.Goals as goal

pub returns : goal.returns
returns c = holds_against
