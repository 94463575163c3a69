use Rattle.std.proofs.Common.{◌∙◌, length-set, arith}
use Rattle.topk_theory.specs.Bounds.{known_grade}
use Rattle.test_plain.proofs.Scanning.{listed_more}
use Rattle.test_plain.proofs.bounds.known_grades.Goals as goal

pub loop-list-preserved : goal.loop-list-preserved
loop-list-preserved c = (
  length-set c.loop-list.known c.loop-list.list c.known_grade.result ∙ c.loop-list.invariant.0,
  listed_more (λ list. known_grade c.args.accesses.now c.args.object list) c.loop-list.known c.loop-list.list c.known_grade.result (omega arith) c.known_grade.ensures c.loop-list.invariant.1,
)
