use Rattle.std.proofs.Common.{sym, ◌∙◌}
use Rattle.topk_base.proofs.NumberLaws.{reads_digits}
use Rattle.topk_base.proofs.numbers.read_number.Goals as goal

pub returns : goal.returns
returns c =
    reads_digits c.args.text.now c.value_of_digits.result c.ok_or.result (sym c.is_number.ensures ∙ c.if-not-is_number.false) c.value_of_digits.ensures c.ok_or.ensures.value
