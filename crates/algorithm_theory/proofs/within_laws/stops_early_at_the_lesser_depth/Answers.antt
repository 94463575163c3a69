use Rattle.algorithm_theory.proofs.WithinDepths.{early_is_lesser}
use Rattle.algorithm_theory.proofs.within_laws.stops_early_at_the_lesser_depth.Goals as goal

pub returns : goal.returns
returns c = early_is_lesser
