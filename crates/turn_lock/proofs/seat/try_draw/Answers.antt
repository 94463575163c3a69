use Rattle.std.proofs.Common.{rules, refl}
use Rattle.turn_lock.proofs.Seating.{grabs_at}
use Rattle.turn_lock.proofs.seat.try_draw.Goals as goal

pub compare_exchange-requires : goal.compare_exchange-requires
compare_exchange-requires g c = (search rules, search rules, grabs_at g.V.Logged.facts _ _ _ _ _ c.requires.rests refl)
