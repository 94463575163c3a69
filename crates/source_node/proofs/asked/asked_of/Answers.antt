use Rattle.std.proofs.Common.{rules}
use Rattle.source_node.specs.Asking.{routed}
use Rattle.source_node.proofs.EndLaws.{asks_refused, no_memory}
use Rattle.source_node.proofs.asked.asked_of.Goals as goal

pub returns-in-Err-clause-asks : goal.returns-in-Err-clause-asks
returns-in-Err-clause-asks c =
    let name = c.args.routes.now in
    let head = c.args.head.now in
    asks_refused (routed name head.method head.target.items) c.in-Err.why (search rules) (no_memory name head.method head.target.items)
