use Rattle.std.proofs.Common.{sym, ◌∙◌}
use Rattle.query_text.proofs.NamedLaws.{opens_max}
use Rattle.query_text.proofs.named.opened_by.Goals as goal

pub returns-then-is_text-2 : goal.returns-then-is_text-2
returns-then-is_text-2 c = sym (opens_max c.args.word.now (sym c.is_text.ensures ∙ c.if-is_text.false) (sym c.is_text-2.ensures ∙ c.if-is_text-2.true))
