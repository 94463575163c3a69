use Rattle.algorithm_theory.proofs.RestrictedRuns.{taz_reads_in}
use Rattle.algorithm_theory.proofs.restricted_laws.reads_in_order_what_it_may.Goals as goal

pub returns : goal.returns
returns c = taz_reads_in
