use Rattle.turn_lock.proofs.Sharing.{longer_is, longer_covers}
use Rattle.turn_lock.proofs.laws.the_longer_list_is_kept.Goals as goal

pub returns : goal.returns
returns g c xs ys = let l = longer_covers xs ys in (longer_is xs ys, l.0, l.1)
