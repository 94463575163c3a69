use Rattle.algorithm_theory.proofs.FaginRuns.{fa_knows_all}
use Rattle.algorithm_theory.proofs.fa_laws.asks_for_what_is_unknown.Goals as goal

pub returns : goal.returns
returns c = fa_knows_all
