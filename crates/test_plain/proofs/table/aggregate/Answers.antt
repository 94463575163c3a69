use Rattle.test_plain.proofs.Making.{aggregate_capped}
use Rattle.test_plain.proofs.table.aggregate.Goals as goal

pub eval-requires-clause-capped : goal.eval-requires-clause-capped
eval-requires-clause-capped c = aggregate_capped c.args.lists.now c.args.expr.now c.args.object c.grades_of-grades.result c.requires c.grades_of-grades.ensures
