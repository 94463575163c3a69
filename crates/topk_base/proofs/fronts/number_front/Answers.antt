use Rattle.std.proofs.Common.{sym, ◌∙◌, arith}
use Rattle.topk_base.proofs.FrontLaws.{digits_further}
use Rattle.topk_base.proofs.fronts.number_front.Goals as goal

pub loop-place-preserved : goal.loop-place-preserved
loop-place-preserved c =
    digits_further c.args.text.now c.loop-place.place c.loop-place.value c.loop-place.invariant (omega arith) (sym c.is_ascii_digit.ensures.value ∙ c.if-not-is_ascii_digit.false) (omega (arith, c.if-value-gt-MOST.false))
