use Rattle.topk_theory.proofs.Adversary.{fixes_parts, parts_fix}
use Rattle.topk_theory.proofs.laws_adversary.fixes_where_the_bounds_part.Goals as goal

pub returns : goal.returns
returns c = λ V k m n O A Y monotone lists some may. ((λ h. fixes_parts V k m n O A Y lists some may h), (λ h. parts_fix V k m n O A Y monotone h))
