use Rattle.nra_core.proofs.StopLaws.{stop_of_quiet, quiet_of_stop}
use Rattle.nra_core.proofs.laws.stops_where_the_others_are_within.Goals as goal

pub returns : goal.returns
returns c = λ V k n D A is_top bound one some named agrees first least. ((λ h. stop_of_quiet V k n D A is_top bound one some named agrees first least h), (λ h. quiet_of_stop V k n D A is_top bound one some named agrees first least h))
