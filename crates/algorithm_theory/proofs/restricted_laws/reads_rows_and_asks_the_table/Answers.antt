use Rattle.algorithm_theory.proofs.RestrictedRuns.{taz_run_agrees}
use Rattle.algorithm_theory.proofs.restricted_laws.reads_rows_and_asks_the_table.Goals as goal

pub returns : goal.returns
returns c = taz_run_agrees
