use Rattle.test_plain.proofs.Making.{threshold_capped}
use Rattle.test_plain.proofs.threshold.threshold_at.Goals as goal

pub eval-requires-clause-capped : goal.eval-requires-clause-capped
eval-requires-clause-capped c = threshold_capped c.args.lists.now c.args.expr.now c.args.depth c.grades_at-grades.result c.requires c.grades_at-grades.ensures
