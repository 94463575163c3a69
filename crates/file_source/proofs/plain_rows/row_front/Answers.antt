use Rattle.file_source.proofs.PlainLaws.{row_first}
use Rattle.file_source.proofs.plain_rows.row_front.Goals as goal

pub returns : goal.returns
returns c =
    row_first c.args.text.now c.in_ok-object.rest.now c.in_ok-rest.rest.now c.in_ok-grade.rest.now c.in_ok-object.object c.in_ok-grade.grade
    c.in_ok-object.ensures c.in_ok-rest.ensures c.in_ok-grade.ensures
