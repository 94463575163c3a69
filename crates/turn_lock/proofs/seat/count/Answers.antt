use Rattle.std.proofs.Common.{rules}
use Rattle.turn_lock.proofs.Seating.{counts_at, gave_now, counted}
use Rattle.turn_lock.proofs.seat.count.Goals as goal

pub store-requires : goal.store-requires
store-requires g c = (search rules, search rules, counts_at g.V.Logged.facts _ _ _ _ c.requires.gives)

pub returns-clause-given : goal.returns-clause-given
returns-clause-given g c = gave_now g.V.Logged.facts _ _ _ c.requires.gives c.store.ensures.2

pub returns-clause-counted : goal.returns-clause-counted
returns-clause-counted g c = counted g.V.Logged.facts c.args.seat.now.me c.store.new.seat.me c.store.ensures.2
