use Rattle.topk_theory.proofs.AdversaryOrder.{by_grade_is}
use Rattle.topk_theory.proofs.laws_adversary.completes_in_order.Goals as goal

pub returns : goal.returns
returns c = by_grade_is
