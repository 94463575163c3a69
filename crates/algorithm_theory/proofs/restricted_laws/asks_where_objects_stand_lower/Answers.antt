use Rattle.algorithm_theory.proofs.RestrictedPlaces.{places_asked}
use Rattle.algorithm_theory.proofs.RestrictedRuns.{run_knows}
use Rattle.algorithm_theory.proofs.restricted_laws.asks_where_objects_stand_lower.Goals as goal

pub returns-clause-new : goal.returns-clause-new
returns-clause-new c = places_asked

pub returns-clause-old : goal.returns-clause-old
returns-clause-old c = λ depth object Z D seen. run_knows Z D depth object seen
