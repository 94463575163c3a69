use Rattle.std.proofs.Common.{◌≡◌, ℕ, List, Option, Some, ap, ◌∙◌, subst}
use Rattle.containers.specs.Values.{Values, value_of}
use Rattle.ranked_list.specs.declared.row.Row.{Row}
use Rattle.topk_theory.specs.Bounds.{grade_among}
use Rattle.bundle_calls.specs.Grades.{AreGradesOf}
use Rattle.bundle_calls.proofs.told.ToldList.grade.Goals as goal

-- grades that are there are those of the list
kept_grade : (kept : Option (Values ℕ)) (grades : Values ℕ) (rows : List Row) (object : ℕ) → kept ≡ Some grades → AreGradesOf kept rows
    → value_of grades object ≡ grade_among rows object
kept_grade kept grades rows object there are = subst (λ g. AreGradesOf g rows) there are object

pub returns-in-Some-clause-grade : goal.returns-in-Some-clause-grade
returns-in-Some-clause-grade c =
    c.get.ensures ∙ kept_grade c.self.inside.grades c.in-Some.grades c.self.inside.rows.now c.args.object c.in-Some.is c.self.invariant
    ∙ ap (λ rows. grade_among rows c.args.object) c.self.view_is
