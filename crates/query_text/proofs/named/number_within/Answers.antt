use Rattle.std.proofs.Common.{refl, sym}
use Rattle.query_text.proofs.NamedLaws.{below_least}
use Rattle.query_text.proofs.named.number_within.Goals as goal

pub returns-then-number-least-clause-err : goal.returns-then-number-least-clause-err
returns-then-number-least-clause-err c =
    (refl, below_least c.args.word.now c.args.least c.args.most c.in-Some.number (sym c.in-Some.ensures) c.if-number-least.true)
