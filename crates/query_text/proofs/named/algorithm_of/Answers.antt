use Rattle.std.proofs.Common.{sym, ◌∙◌}
use Rattle.query_text.proofs.NamedLaws.{names_taz}
use Rattle.query_text.proofs.named.algorithm_of.Goals as goal

pub returns-then-is_text-5 : goal.returns-then-is_text-5
returns-then-is_text-5 c = sym (names_taz c.args.word.now (sym c.is_text-5.ensures ∙ c.if-is_text-5.true))
