use Rattle.topk_top.proofs.FewLines.{refuses_few}
use Rattle.topk_top.proofs.laws_catalog.failures_refuse_few_lines.Goals as goal

pub returns : goal.returns
returns c = λ r outcomes run place. refuses_few r outcomes run place
