use Rattle.query_core.proofs.Feeding.{fed_whole}
use Rattle.query_core.proofs.Answering.{finishes_end}
use Rattle.query_core.specs.Machines.{state_of}
use Rattle.bundle_calls.proofs.drive.drive.Goals as goal

pub returns-in-Ok-clause-drives : goal.returns-in-Ok-clause-drives
returns-in-Ok-clause-drives c =
    let driven = c.in-Ok.ensures.ok in
    finishes_end c.args.lists.now c.args.machine c.feed_all.new.machine c.answer_of.result driven.method driven.goes (fed_whole c.args.lists.now (state_of c.feed_all.new.machine) driven.can) driven.done c.answer_of.ensures
