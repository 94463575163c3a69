use Rattle.algorithm_theory.proofs.FaginRuns.{fa_run_agrees}
use Rattle.algorithm_theory.proofs.fa_laws.reads_rows_and_asks_the_table.Goals as goal

pub returns : goal.returns
returns c = fa_run_agrees
