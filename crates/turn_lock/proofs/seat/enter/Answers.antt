use Rattle.std.proofs.Common.{rules, Some}
use Rattle.turn_lock.proofs.Seating.{waits_now, in_slot, entered}
use Rattle.turn_lock.proofs.seat.enter.Goals as goal

pub wait_for-requires-clause-waits : goal.wait_for-requires-clause-waits
wait_for-requires-clause-waits g c = waits_now g.V.Logged.facts _ _ _ c.requires.rests c.draw-ticket.ensures.drawn

pub exchange-requires : goal.exchange-requires
exchange-requires g c = (search rules, (Some c.wait_for.ensures.took.value, in_slot g.V.Logged.facts _ _ c.wait_for.ensures.took))

pub returns-clause-turn : goal.returns-clause-turn
returns-clause-turn g c = entered g.V.Logged.facts _ _ _ _ _ _ _ c.requires.rests c.draw-ticket.ensures.drawn
    c.wait_for.ensures.took c.exchange.ensures.2 c.in-Some.is c.exchange.ensures.3
