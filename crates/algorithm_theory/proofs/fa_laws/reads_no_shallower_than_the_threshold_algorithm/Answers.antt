use Rattle.algorithm_theory.proofs.FaginRuns.{always_no_shallower}
use Rattle.algorithm_theory.proofs.fa_laws.reads_no_shallower_than_the_threshold_algorithm.Goals as goal

pub returns : goal.returns
returns c = always_no_shallower
