use Rattle.std.proofs.Common.{rules}
use Rattle.file_source.proofs.PlainLaws.{header_read, none_read}
use Rattle.file_source.proofs.plain_rows.without_header.Goals as goal

pub returns-in-Some : goal.returns-in-Some
returns-in-Some c = header_read c.args.text.now c.in-Some.rest.now (search rules)

pub returns-in-None : goal.returns-in-None
returns-in-None c = none_read c.args.text.now
