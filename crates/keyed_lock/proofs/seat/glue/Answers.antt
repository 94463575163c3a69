use Rattle.std.proofs.Common.{rules}
use Rattle.keyed_lock.proofs.Seating.{joins_at}
use Rattle.keyed_lock.proofs.seat.glue.Goals as goal

pub join_seat-requires : goal.join_seat-requires
join_seat-requires g c = (
  search rules,
  search rules,
  search rules,
  search rules,
  joins_at g.V.LockInvariant.keeps _ _ _ c.args.seat.now.me c.args.other.me c.requires.poised.0 c.requires.rests.0 c.requires.rests.1,
)
