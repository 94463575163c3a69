use Rattle.algorithm_theory.proofs.FaginCommon.{stop_shown}
use Rattle.algorithm_theory.proofs.fa_laws.shows_when_it_stops.Goals as goal

pub returns : goal.returns
returns c = λ k n depth D asked within. stop_shown k n depth D asked.table asked.lists within
