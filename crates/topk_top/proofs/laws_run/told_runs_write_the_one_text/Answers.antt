use Rattle.topk_top.proofs.ToldRuns.{told_runs}
use Rattle.topk_top.proofs.laws_run.told_runs_write_the_one_text.Goals as goal

pub returns : goal.returns
returns c = told_runs c.told_tables_give_the_one_outcome.ensures
