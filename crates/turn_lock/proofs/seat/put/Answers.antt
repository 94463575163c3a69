use Rattle.turn_lock.proofs.Seating.{put_in, gives_now}
use Rattle.turn_lock.proofs.seat.put.Goals as goal

pub returns-clause-hand : goal.returns-clause-hand
returns-clause-hand g c = put_in g.V.Logged.facts _ _ _ c.requires.turn c.exchange.ensures.3

pub returns-clause-gives : goal.returns-clause-gives
returns-clause-gives g c = gives_now g.V.Logged.facts _ _ _ _ c.requires.turn c.requires.change c.length-length.ensures
    (put_in g.V.Logged.facts _ _ _ c.requires.turn c.exchange.ensures.3)
