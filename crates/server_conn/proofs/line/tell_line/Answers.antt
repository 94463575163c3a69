use Rattle.server_conn.specs.Entries.{view_in}
use Rattle.server_conn.proofs.LineLaws.{became_short}
use Rattle.server_conn.proofs.line.tell_line.Goals as goal

pub returns-in-Err-text-clause-tells : goal.returns-in-Err-text-clause-tells
returns-in-Err-text-clause-tells g c =
    became_short (view_in c.args.catalog.now) 1 c.args.line.now c.args.pass.now c.answer_line.new.pass c.in-Ok.outcome c.in-Ok.ensures.becomes
