use Rattle.algorithm_theory.proofs.RestrictedRuns.{taz_sees_answer}
use Rattle.algorithm_theory.proofs.restricted_laws.sees_its_answer.Goals as goal

pub returns : goal.returns
returns c = taz_sees_answer
