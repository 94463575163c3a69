use Rattle.std.proofs.Common.{sym, subst}
use Rattle.query_text.specs.Words.{Class, IsLongest}
use Rattle.query_text.proofs.LongestLaws.{longest_digits}
use Rattle.query_text.proofs.words.number_len.Goals as goal

pub returns : goal.returns
returns c =
    subst (IsLongest Class.digits c.args.text.now) (sym c.digits_len.ensures)
    (longest_digits c.args.text.now c.in-Some.first.now c.in-Some.field-0-1.now c.in-Some.ensures.cases.0 c.if-first-eq48.false)
