use Rattle.turn_lock.proofs.Seating.{left}
use Rattle.turn_lock.proofs.seat.leave.Goals as goal

pub returns-clause-known : goal.returns-clause-known
returns-clause-known g c = left g.V.Logged.facts c.args.seat.now.me c.put-length.new.seat.me c.count.new.seat.me
    c.pass_on.new.seat.me c.args.value c.put-length.ensures.hand c.count.ensures.counted c.pass_on.ensures.known
