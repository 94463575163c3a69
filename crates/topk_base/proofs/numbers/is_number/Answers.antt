use Rattle.std.proofs.Common.{sym, ◌∙◌}
use Rattle.topk_base.proofs.NumberLaws.{is_number_alone, is_number_by_rest}
use Rattle.topk_base.proofs.numbers.is_number.Goals as goal

pub returns : goal.returns
returns c =
    let digit = sym c.is_ascii_digit.ensures.value ∙ c.if-not-is_ascii_digit.false in
    c.are_digits.ensures ∙ sym (is_number_by_rest c.args.text.now c.in-Some.first.now c.in-Some.rest.now c.in-Some.ensures.cases.0 c.if-first-eq48.false digit)

pub returns-then-first-eq48 : goal.returns-then-first-eq48
returns-then-first-eq48 c =
    c.is_empty.ensures ∙ sym (is_number_alone c.args.text.now c.in-Some.first.now c.in-Some.rest.now c.in-Some.ensures.cases.0 c.if-first-eq48.true)
