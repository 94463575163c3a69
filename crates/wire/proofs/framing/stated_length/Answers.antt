use Rattle.std.proofs.Common.{◌≡◌, ◌<◌, true, length, arith, rules}
use Rattle.std.specs.Str.{all_ascii_digits}
use Rattle.topk_base.proofs.NumberLaws.{list_all_digits}
use Rattle.wire.proofs.FindLaws.{stated_is}
use Rattle.wire.proofs.framing.stated_length.Goals as goal

pub returns : goal.returns
returns c =
    let some : 0 < length c.args.value.now = search rules in
    let are : all_ascii_digits c.args.value.now ≡ true = search (rules, list_all_digits) in
    stated_is c.args.value.now c.value_of_digits.result c.value_of_digits.ensures some (omega (arith, c.if-value-gt-MAX_LENGTH_DIGITS.false)) are
