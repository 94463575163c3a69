use Rattle.std.proofs.Common.{ap, ◌∙◌}
use Rattle.query_text.specs.Course.{course_view, behind_operand}
use Rattle.query_text.proofs.course.Course.advance.Goals as goal

pub returns-in-Behind-clause-ok : goal.returns-in-Behind-clause-ok
returns-in-Behind-clause-ok c = rw c.in-Behind.is (c.leave_operand.ensures ∙ ap (behind_operand (course_view c.args.self.now).operators) c.is_text.ensures)
