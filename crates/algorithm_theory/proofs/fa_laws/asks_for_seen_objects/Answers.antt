use Rattle.algorithm_theory.proofs.FaginRuns.{fa_run_tame}
use Rattle.algorithm_theory.proofs.fa_laws.asks_for_seen_objects.Goals as goal

pub returns : goal.returns
returns c = fa_run_tame
