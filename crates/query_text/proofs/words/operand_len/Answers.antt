use Rattle.std.proofs.Common.{is_some, sym, ap, ◌∙◌, arith}
use Rattle.query_text.proofs.LongestLaws.{longest_opening}
use Rattle.query_text.proofs.words.operand_len.Goals as goal

pub returns-then-is_some : goal.returns-then-is_some
returns-then-is_some c =
    longest_opening c.args.text.now c.name_len-count.result (omega arith)
    (ap is_some (sym c.opened_by.ensures) ∙ (sym c.is_some.ensures ∙ c.if-is_some.true))
