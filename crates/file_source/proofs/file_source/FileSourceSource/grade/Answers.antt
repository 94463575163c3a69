use Rattle.std.proofs.Common.{◌∙◌, None, Contains, ap, sym, subst}
use Rattle.ranked_list.proofs.OptionLaws.{none_unless_some}
use Rattle.source_api.specs.Told.{first_grade}
use Rattle.file_source.specs.Filed.{Filed}
use Rattle.file_source.specs.ListFile.{rows_among}
use Rattle.file_source.proofs.RecordLaws.{some_broken, told_rows_grade}
use Rattle.file_source.proofs.file_source.FileSourceSource.grade.Goals as goal

pub returns-then-self-clause-answer : goal.returns-then-self-clause-answer
returns-then-self-clause-answer c = (
  sym (ap (λ (f : Filed). first_grade (rows_among f.records) c.args.object) c.index.ensures)
      ∙ (sym c.find-grade.ensures ∙ none_unless_some c.find-grade.result c.if-is_none.ensures),
  subst (λ (f : Filed). Contains f.records None) (c.self.view_is ∙ c.index.ensures)
      (some_broken c.self.inside.records.items (sym c.self.invariant.broken ∙ c.if-self.true)),
)

pub returns-clause-grade : goal.returns-clause-grade
returns-clause-grade c =
    told_rows_grade c.args.self.now.records c.args.object c.find-grade.result
    (c.find-grade.ensures ∙ ap (λ (f : Filed). first_grade (rows_among f.records) c.args.object) c.index.ensures)
