use Rattle.std.proofs.Common.{◌-◌, ◌+◌, ◌*◌, ap, get_or, sym, subst, ◌<◌, ◌^◌, ◌∙◌, arith}
use Rattle.std.specs.Str.Parse.{digits_value}
use Rattle.std.proofs.lemmas.List.{take_all}
use Rattle.topk_base.proofs.NumberLaws.{digit_more, too_large}
use Rattle.topk_base.proofs.numbers.value_of_digits.Goals as goal

pub overflow_sub-digit : goal.overflow_sub-digit
overflow_sub-digit c =
    let one = digit_more c.args.digits.now c.loop-digit.digit-index c.requires (omega arith) in one.low

pub returns-in_err-checked_mul : goal.returns-in_err-checked_mul
returns-in_err-checked_mul c =
    rw c.from_residual.ensures (λ fits.
    too_large c.args.digits.now c.loop-digit.digit-index c.loop-digit.value c.requires (omega arith) c.loop-digit.invariant.0 (omega (arith, c.in_err-checked_mul.ensures)) fits)

pub returns-in_err-value : goal.returns-in_err-value
returns-in_err-value c =
    let product = c.in_ok-checked_mul.ensures in
    rw c.from_residual-in_err-value.ensures (λ fits.
    too_large c.args.digits.now c.loop-digit.digit-index c.loop-digit.value c.requires (omega arith) c.loop-digit.invariant.0 (omega (arith, c.in_err-value.ensures, product.1)) fits)

pub loop-digit-preserved : goal.loop-digit-preserved
loop-digit-preserved c =
    let one = digit_more c.args.digits.now c.loop-digit.digit-index c.requires (omega arith) in
    let product = c.in_ok-checked_mul.ensures in
    let total = c.in_ok-value.ensures in
    let before = c.loop-digit.invariant.0 in (
      total.1 ∙ ap (λ v. v + (get_or c.args.digits.now c.loop-digit.digit-index 0 - 48)) (product.1 ∙ ap (λ v. v * 10) before) ∙ sym one.value,
      omega (arith, total.0, total.1),
    )

pub returns : goal.returns
returns c =
    let whole = c.loop-digit.invariant.0 ∙ ap (digits_value 10) (take_all c.loop-digit.digit-index c.args.digits.now (omega arith)) in
    (subst (λ v. v < 2 ^ 64) whole c.loop-digit.invariant.1, whole)
