use Rattle.std.proofs.Common.{sym}
use Rattle.cert_text.proofs.QueryLaws.{query_found, query_wordless}
use Rattle.cert_text.proofs.reader.read_query.Goals as goal

pub returns-in_default : goal.returns-in_default
returns-in_default c = query_wordless c.args.line.now (sym c.in_default.ensures)

pub returns-in-Ok : goal.returns-in-Ok
returns-in-Ok c =
    query_found c.args.line.now c.in-Some.text.now c.in-Ok.query (sym c.in-Some.ensures) c.in-Ok.ensures.reads c.in-Ok.ensures.again
