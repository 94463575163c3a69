use Rattle.query_core.proofs.Answering.{drives_ready}
use Rattle.bundle_calls.proofs.drive.answer_over.Goals as goal

pub returns-in-Ok-clause-runs : goal.returns-in-Ok-clause-runs
returns-in-Ok-clause-runs c =
    drives_ready c.args.ready.now c.args.lists.now c.in-Ok.machine c.drive.result c.requires.ready c.requires.table c.requires.lists c.requires.ready.expr.lists.some c.in-Ok.ensures.begun c.drive.ensures.drives
