use Rattle.std.proofs.Common.{Err, ap, sym, subst, ℕ, Option}
use Rattle.source_api.specs.declared.source.Trouble.{Trouble}
use Rattle.page_json.specs.Bodies.{IsGradeBody}
use Rattle.http_source.specs.Answers.{GradeBy}
use Rattle.http_source.specs.Asking.{IsNoFault}
use Rattle.http_source.proofs.BodyLaws.{grade_from, grade_fault, fault_calm}
use Rattle.http_source.proofs.saying.grade_said.Goals as goal

pub returns-in-Ok-clause-says : goal.returns-in-Ok-clause-says
returns-in-Ok-clause-says c = grade_from c.args.body.now (c.in-Ok.said) c.args.at_hand c.grade_at.result c.in-Ok.ensures.read c.grade_at.ensures.says

pub returns-in-Err-clause-says : goal.returns-in-Err-clause-says
returns-in-Err-clause-says c =
    subst (λ (why : Trouble). GradeBy (IsGradeBody c.args.body.now) c.args.at_hand (Err why)) (sym c.trouble_in.ensures)
    (grade_fault c.args.body.now c.args.at_hand c.in-Err.fault (λ is. c.in-Err.ensures.refused (ap Err is)))

pub returns-in-Err-clause-calm : goal.returns-in-Err-clause-calm
returns-in-Err-clause-calm c = subst (λ (why : Trouble). IsNoFault {T = Option ℕ} (Err why)) (sym c.trouble_in.ensures) (fault_calm (Option ℕ) c.in-Err.fault)
