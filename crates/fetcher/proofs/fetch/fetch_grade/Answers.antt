use Rattle.std.proofs.Common.{Some, sym, subst}
use Rattle.std.specs.declared.result.Result.TheVariants.{Ok, Err}
use Rattle.fetcher.specs.Turning.{Brings}
use Rattle.fetcher.proofs.BringLaws.{grade_brings, trouble_brings, grade_trouble_may, answer_busy, failed_busy}
use Rattle.fetcher.specs.Moving.{IsMovedAs}
use Rattle.fetcher.proofs.MoveLaws.{answer_as, trouble_as}
use Rattle.fetcher.proofs.fetch.fetch_grade.Goals as goal

pub returns-in-Ok-clause-brings : goal.returns-in-Ok-clause-brings
returns-in-Ok-clause-brings g c = λ page ahead.
    subst (Brings page ahead (g.S.Source.list c.args.source.now) (g.S.Source.counts c.args.source.now) (g.S.Source.counts c.grade.new.self) c.args.feeder.now.pass.1 c.tell_grade.new.feeder.pass.1) (sym c.tell_grade.ensures.answer)
    (grade_brings page ahead c.args.object c.in-Ok.grade _ _ _ _ _ c.tell_grade.ensures.fed c.in-Ok.ensures.given c.in-Ok.ensures.grade)

pub returns-in-Ok-clause-busy : goal.returns-in-Ok-clause-busy
returns-in-Ok-clause-busy g c = answer_busy c.args.object c.in-Ok.grade c.tell_grade.result c.tell_grade.ensures.answer

pub returns-in-Err-clause-brings : goal.returns-in-Err-clause-brings
returns-in-Err-clause-brings g c = λ page ahead.
    subst (Brings page ahead (g.S.Source.list c.args.source.now) (g.S.Source.counts c.args.source.now) (g.S.Source.counts c.grade.new.self) c.args.feeder.now.pass.1 c.tell_trouble.new.feeder.pass.1) (sym c.tell_trouble.ensures.answer)
    (trouble_brings page ahead (Some c.args.object) c.in-Err.trouble (g.S.Source.list c.args.source.now) _ _ _ _ c.tell_trouble.ensures.fed c.in-Err.ensures.gave_nothing c.in-Err.ensures.cause)

pub returns-in-Err-clause-busy : goal.returns-in-Err-clause-busy
returns-in-Err-clause-busy g c = failed_busy c.in-Err.trouble c.tell_trouble.result c.tell_trouble.ensures.answer

pub returns-in-Ok-clause-called : goal.returns-in-Ok-clause-called
returns-in-Ok-clause-called g c = record {
  answer = Ok c.in-Ok.grade;
  called = c.in-Ok.ensures.answered;
  told = c.tell_grade.ensures.told;
  is = c.tell_grade.ensures.answer;
}

pub returns-in-Err-clause-called : goal.returns-in-Err-clause-called
returns-in-Err-clause-called g c = record {
  answer = Err c.in-Err.trouble;
  called = c.in-Err.ensures.refused;
  told = c.tell_trouble.ensures.told;
  is = c.tell_trouble.ensures.answer;
}

pub tell_trouble-requires-clause-may : goal.tell_trouble-requires-clause-may
tell_trouble-requires-clause-may g c = grade_trouble_may c.args.object c.in-Err.trouble _ _ c.args.feeder.now.pass.1 c.requires.may c.in-Err.ensures.moved

pub returns-in-Ok-clause-moved : goal.returns-in-Ok-clause-moved
returns-in-Ok-clause-moved g c = subst (IsMovedAs (g.S.Source.at_hand c.args.source.now) (g.S.Source.states c.args.source.now)) (sym c.tell_grade.ensures.answer) (answer_as _ _ c.args.object c.in-Ok.grade)

pub returns-in-Err-clause-moved : goal.returns-in-Err-clause-moved
returns-in-Err-clause-moved g c = subst (IsMovedAs (g.S.Source.at_hand c.args.source.now) (g.S.Source.states c.args.source.now)) (sym c.tell_trouble.ensures.answer) (trouble_as _ _ c.in-Err.trouble c.in-Err.ensures.moved)
