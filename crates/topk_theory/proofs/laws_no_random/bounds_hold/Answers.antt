use Rattle.topk_theory.proofs.BoundsLaws.{low_holds, high_holds}
use Rattle.topk_theory.proofs.laws_no_random.bounds_hold.Goals as goal

pub returns : goal.returns
returns c = λ V m n D A object monotone agrees. (low_holds V m n D A object monotone agrees, high_holds V m n D A object monotone agrees)
