use Rattle.std.proofs.Common.{arith}
use Rattle.std.proofs.lemmas.Result.{err_from_is_err_and}
use Rattle.query_text.proofs.NamedLaws.{count_missed}
use Rattle.query_text.proofs.named.count_within.Goals as goal

pub returns-clause-ok : goal.returns-clause-ok
returns-clause-ok c =
    let read = c.in_ok-number_within.ensures.ok in
    (read.0, read.1, omega (arith, read.2, c.from.ensures))

pub returns-in_err-number_within-clause-err : goal.returns-in_err-number_within-clause-err
returns-in_err-number_within-clause-err c =
    let p = err_from_is_err_and c.from_residual.result c.from_residual.ensures.1 in
    rw (p.1, p.2) (count_missed c.args.word.now c.args.at c.from.result _ c.from.ensures c.in_err-number_within.ensures.err)
