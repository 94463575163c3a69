use Rattle.wire.specs.declared.replying.ConnEnd.TheVariants.{LinkFault}
use Rattle.wire.proofs.RefusalLaws.{sends_as}
use Rattle.wire.proofs.replying.refuse.Goals as goal

pub returns-in-Err-clause-sends : goal.returns-in-Err-clause-sends
returns-in-Err-clause-sends g c =
    sends_as _ _ _ _ c.status-status.result _ c.args.is_head LinkFault c.status-status.ensures (c.in-Err.ensures.writes.front, c.in-Err.ensures.writes.cause.failed)
