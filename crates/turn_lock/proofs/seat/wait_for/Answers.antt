use Rattle.std.proofs.Common.{rules, sym, subst}
use Rattle.turn_lock.specs.Seats.{Waits}
use Rattle.turn_lock.proofs.Seating.{watches_at, took_now}
use Rattle.turn_lock.proofs.seat.wait_for.Goals as goal

pub load-requires : goal.load-requires
load-requires g c = (
  search rules,
  search rules,
  watches_at g.V.Logged.facts _ _ c.args.ticket _
      (subst (Waits c.args.ticket) (sym c.loop.invariant.1) c.requires.waits),
)

pub returns-then-load-ticket-clause-took : goal.returns-then-load-ticket-clause-took
returns-then-load-ticket-clause-took g c = took_now g.V.Logged.facts c.args.seat.now.me c.loop.seat.me _ c.args.ticket c.load.result
    c.requires.waits c.loop.invariant.1 c.load.ensures.2 c.if-load-ticket.true
