use Rattle.topk_top.proofs.Becoming.{lines_become}
use Rattle.topk_top.proofs.laws_catalog.told_tables_give_the_one_outcome.Goals as goal

pub returns : goal.returns
returns c = λ r outcomes run tells. lines_become r outcomes run c.queries_are_on_their_runs.ensures tells
