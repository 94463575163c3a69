use Rattle.topk_theory.proofs.NoRandomLaws.{nra_depth_is_least}
use Rattle.topk_theory.proofs.laws_no_random.is_quiet_at_the_least_depth.Goals as goal

pub returns : goal.returns
returns c = nra_depth_is_least
