use Rattle.std.proofs.Common.{rules}
use Rattle.keyed_lock.proofs.Keeping.{offers}
use Rattle.keyed_lock.proofs.Seating.{splits_at}
use Rattle.keyed_lock.proofs.seat.cut.Goals as goal

pub compare_exchange-requires : goal.compare_exchange-requires
compare_exchange-requires g c = (search rules, search rules, offers g.V.LockInvariant.keeps _ _ _ _ _)

pub split_seat-requires : goal.split_seat-requires
split_seat-requires g c = (
  search rules,
  search rules,
  splits_at g.V.LockInvariant.keeps _ _ c.args.seat.now.me c.compare_exchange.new.seat.me c.args.parts c.requires.rests c.requires.room.0 c.requires.room.1
      c.compare_exchange.ensures.2,
)
