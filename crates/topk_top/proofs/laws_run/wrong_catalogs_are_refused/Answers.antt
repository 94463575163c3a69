use Rattle.topk_top.proofs.ToldText.{wrong_refused}
use Rattle.topk_top.proofs.laws_run.wrong_catalogs_are_refused.Goals as goal

pub returns : goal.returns
returns c = wrong_refused
