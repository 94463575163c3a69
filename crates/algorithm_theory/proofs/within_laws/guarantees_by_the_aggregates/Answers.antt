use Rattle.algorithm_theory.proofs.Nearness.{early_guarantee_there}
use Rattle.algorithm_theory.proofs.within_laws.guarantees_by_the_aggregates.Goals as goal

pub returns : goal.returns
returns c = early_guarantee_there
