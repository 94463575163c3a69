use Rattle.std.proofs.Common.{rules}
use Rattle.file_source.proofs.PlainLaws.{marked, unmarked}
use Rattle.file_source.proofs.plain_rows.without_mark.Goals as goal

pub returns-in-Some : goal.returns-in-Some
returns-in-Some c = marked c.args.text.now c.in-Some.rest.now (search rules)

pub returns-in-None : goal.returns-in-None
returns-in-None c = unmarked c.args.text.now (search rules)
