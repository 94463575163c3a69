use Rattle.algorithm_theory.proofs.FaginCommon.{seen_are_there}
use Rattle.algorithm_theory.proofs.FaginSight.{seen_in_order}
use Rattle.algorithm_theory.proofs.fa_laws.sees_by_place_and_list.Goals as goal

pub returns-clause-objects : goal.returns-clause-objects
returns-clause-objects c = seen_are_there

pub returns-clause-order : goal.returns-clause-order
returns-clause-order c = seen_in_order
