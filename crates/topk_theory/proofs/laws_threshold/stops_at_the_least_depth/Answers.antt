use Rattle.topk_theory.proofs.ThresholdLaws.{least_depth}
use Rattle.topk_theory.proofs.laws_threshold.stops_at_the_least_depth.Goals as goal

pub returns : goal.returns
returns c = least_depth
