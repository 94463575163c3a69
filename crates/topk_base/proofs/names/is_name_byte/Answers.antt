use Rattle.std.proofs.Common.{sym, ◌∙◌}
use Rattle.topk_base.proofs.NameLaws.{name_byte_else}
use Rattle.topk_base.proofs.names.is_name_byte.Goals as goal

pub returns-else-is_ascii_alphanumeric : goal.returns-else-is_ascii_alphanumeric
returns-else-is_ascii_alphanumeric c = name_byte_else c.args.byte (sym c.is_ascii_alphanumeric.ensures.value ∙ c.if-is_ascii_alphanumeric.false)
