use Rattle.algorithm_theory.proofs.Nearness.{fixed_within}
use Rattle.algorithm_theory.proofs.within_laws.holds_where_it_is_fixed.Goals as goal

pub returns : goal.returns
returns c = λ V k factor m n A Y D some fixes agrees. fixed_within V k factor m n A Y D some fixes agrees
