use Rattle.topk_top.proofs.ToldRuns.{settings_nothing}
use Rattle.topk_top.proofs.laws_run.settings_change_nothing.Goals as goal

pub returns : goal.returns
returns c = settings_nothing c.told_runs_write_the_one_text.ensures
