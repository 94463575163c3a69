use Rattle.turn_lock.proofs.Turning.{raised_from}
use Rattle.turn_lock.proofs.laws.a_turn_never_lowers_high.Goals as goal

pub returns : goal.returns
returns g c taken given pass low up = let r = raised_from taken.mark given.mark pass.high up low in (r.0, r.1)
