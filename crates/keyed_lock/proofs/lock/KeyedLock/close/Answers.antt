use Rattle.std.proofs.Common.{ap}
use Rattle.keyed_lock.proofs.Seating.{closed_all, closed_keep}
use Rattle.keyed_lock.proofs.lock.KeyedLock.close.Goals as goal

pub take_out-requires-clause-full : goal.take_out-requires-clause-full
take_out-requires-clause-full g c =
    let all = closed_all g.V.LockInvariant.keeps _ _ c.pass.inside.seat.me c.args.pass.1 _ _ c.close_with.ensures.values.2 (ap (λ p. p.1) c.pass.view_is)
    c.requires.rests c.requires.whole in
    record { full = c.close_with.ensures.values.1; values = all.0; are = all.1 }

pub returns-clause-keep : goal.returns-clause-keep
returns-clause-keep g c = closed_keep g.V.LockInvariant.keeps _ _ _ c.pass.inside.seat.me c.args.pass.1 _ _ _ c.close_with.ensures.values.2
    (ap (λ p. p.1) c.pass.view_is) c.requires.rests c.requires.whole (ap (λ l. l.key) c.self.view_is) c.take_out.ensures
