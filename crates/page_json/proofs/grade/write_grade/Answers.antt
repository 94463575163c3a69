use Rattle.std.proofs.Common.{◌≡◌, subst, sym, rules}
use Rattle.page_json.specs.Bodies.{IsGradeBody}
use Rattle.page_json.specs.Texts.{grade_text}
use Rattle.page_json.proofs.TextsBack.{grade_reads_back}
use Rattle.page_json.proofs.grade.write_grade.Goals as goal

pub returns-clause-reads_back : goal.returns-clause-reads_back
returns-clause-reads_back c =
    let is : c.end_body.new.text.items ≡ grade_text c.args.version c.args.grade = search rules in
    subst (λ bytes. IsGradeBody bytes (record { version = c.args.version; body = c.args.grade })) (sym is) (grade_reads_back c.args.version c.args.grade c.ranges.version.fits c.put_grade.ensures.fits)
