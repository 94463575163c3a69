use Rattle.algorithm_theory.proofs.RestrictedReading.{run_threshold}
use Rattle.algorithm_theory.proofs.restricted_laws.has_the_threshold_of_what_it_read.Goals as goal

pub returns : goal.returns
returns c = run_threshold
