use Rattle.algorithm_theory.specs.Restricted.{taz_depth}
use Rattle.algorithm_theory.proofs.RestrictedRuns.{run_tame}
use Rattle.algorithm_theory.proofs.restricted_laws.asks_for_seen_objects.Goals as goal

pub returns : goal.returns
returns c = λ V k Z D. run_tame Z D (taz_depth V k Z D)
