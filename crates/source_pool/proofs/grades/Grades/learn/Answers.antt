use Rattle.std.proofs.Common.{Some, sym, ap, ◌∙◌}
use Rattle.source_pool.proofs.RememberLaws.{graded_settled}
use Rattle.source_pool.proofs.grades.Grades.learn.Goals as goal

pub returns-in-Some-Graded : goal.returns-in-Some-Graded
returns-in-Some-Graded c = λ h.
    c.put.ensures c.args.state.now.log
    (λ some. graded_settled c.args.state.now c.args.object c.in-Some-Graded.grade (sym c.asked.ensures ∙ (c.in-Some-Graded.is ∙ ap Some c.in-Some-Graded.field-0-is)))
    (c.make_places.ensures c.args.state.now.log h)
