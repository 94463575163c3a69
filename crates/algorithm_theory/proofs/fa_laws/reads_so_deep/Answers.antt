use Rattle.algorithm_theory.proofs.FaginRuns.{fa_run_depth}
use Rattle.algorithm_theory.proofs.fa_laws.reads_so_deep.Goals as goal

pub returns : goal.returns
returns c = fa_run_depth
