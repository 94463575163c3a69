use Rattle.algorithm_theory.proofs.FlatTable.{bounds_are_met}
use Rattle.algorithm_theory.proofs.near_best_laws.bounds_are_met.Goals as goal

pub returns : goal.returns
returns c = bounds_are_met
