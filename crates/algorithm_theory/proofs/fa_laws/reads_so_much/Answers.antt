use Rattle.algorithm_theory.proofs.FaginRuns.{fa_run_long}
use Rattle.algorithm_theory.proofs.fa_laws.reads_so_much.Goals as goal

pub returns : goal.returns
returns c = fa_run_long
