use Rattle.std.proofs.Common.{ap}
use Rattle.turn_lock.proofs.Seating.{closed, closed_value, closed_some}
use Rattle.turn_lock.proofs.lock.TurnLock.close.Goals as goal

pub unreachable-requires : goal.unreachable-requires
unreachable-requires g c = closed_some g.V.Logged.facts c.args.pass.1 _ c.in-None.is
    (closed g.V.Logged.facts _ c.pass.inside.seat.me c.args.pass.1 _ _ _ c.close_with-closed.ensures.values.2 c.pass.invariant
    (ap (λ p. p.1) c.pass.view_is) c.requires.rests c.requires.whole c.take-slot.ensures.value)

pub returns : goal.returns
returns g c = closed_value g.V.Logged.facts c.args.pass.1 _ _ c.in-Some.is
    (closed g.V.Logged.facts _ c.pass.inside.seat.me c.args.pass.1 _ _ _ c.close_with-closed.ensures.values.2 c.pass.invariant
    (ap (λ p. p.1) c.pass.view_is) c.requires.rests c.requires.whole c.take-slot.ensures.value)
