use Rattle.algorithm_theory.proofs.Costs.{ta_cost_bounded}
use Rattle.algorithm_theory.proofs.near_best_laws.ta_cost_is_bounded.Goals as goal

pub returns : goal.returns
returns c = ta_cost_bounded
