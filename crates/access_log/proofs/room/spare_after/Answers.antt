use Rattle.std.proofs.Common.{◌-◌, cond, is_some, sym, ap}
use Rattle.access_log.proofs.room.spare_after.Goals as goal

pub returns-in-Some : goal.returns-in-Some
returns-in-Some c = ap (λ place. cond (is_some place) c.args.spare (c.args.spare - 1)) (sym c.in-Some.is)
