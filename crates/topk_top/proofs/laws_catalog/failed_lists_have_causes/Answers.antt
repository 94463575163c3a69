use Rattle.topk_top.proofs.Failures.{lines_failures}
use Rattle.topk_top.proofs.laws_catalog.failed_lists_have_causes.Goals as goal

pub returns : goal.returns
returns c = λ r outcomes run. lines_failures r outcomes run
