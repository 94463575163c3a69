use Rattle.std.proofs.Common.{rules}
use Rattle.keyed_lock.proofs.Seating.{releases_at}
use Rattle.keyed_lock.proofs.seat.put.Goals as goal

pub store-requires : goal.store-requires
store-requires g c = (
  search rules,
  search rules,
  releases_at g.V.LockInvariant.keeps _ _ c.args.place _ _ _ c.args.value c.requires.place c.requires.poised c.requires.held
      c.requires.value c.exchange.ensures.3,
)
