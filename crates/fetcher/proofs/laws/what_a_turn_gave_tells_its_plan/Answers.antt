use Rattle.fetcher.proofs.PlanLaws.{same_plan}
use Rattle.fetcher.proofs.laws.what_a_turn_gave_tells_its_plan.Goals as goal

pub returns : goal.returns
returns c = same_plan
