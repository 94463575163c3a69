use Rattle.std.proofs.Common.{rules}
use Rattle.keyed_lock.proofs.Keeping.{grabs}
use Rattle.keyed_lock.proofs.Seating.{slot_found}
use Rattle.keyed_lock.proofs.seat.grab.Goals as goal

pub compare_exchange-requires : goal.compare_exchange-requires
compare_exchange-requires g c = (search rules, search rules, grabs g.V.LockInvariant.keeps _ _ _ _ _ c.requires.place c.requires.poised c.requires.rests)

pub exchange-requires : goal.exchange-requires
exchange-requires g c = (search rules, slot_found g.V.LockInvariant.keeps _ _ _ _ c.compare_exchange.ensures.2 c.if-compare_exchange-eq0.true)
