use Rattle.std.proofs.Common.{rules}
use Rattle.server_conn.specs.Asking.{routed}
use Rattle.server_conn.proofs.EndLaws.{asks_refused, no_memory}
use Rattle.server_conn.proofs.asked.line_asked.Goals as goal

pub returns-in-Err : goal.returns-in-Err
returns-in-Err c =
    let head = c.args.head.now in
    asks_refused (routed head.method head.target.items) c.in-Err.why (search rules) (no_memory head.method head.target.items)
