use Rattle.std.proofs.Common.{refl}
use Rattle.turn_lock.proofs.Seating.{opens_at}
use Rattle.turn_lock.proofs.lock.TurnLock.on_table.Goals as goal

pub new-requires : goal.new-requires
new-requires g c = opens_at g.V.Logged.facts _ _ _ c.args.opening.now.value c.requires.entries c.requires.slot refl
