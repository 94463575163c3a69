use Rattle.std.proofs.Common.{rules}
use Rattle.turn_lock.proofs.Seating.{passes_on_at, rests_now}
use Rattle.turn_lock.proofs.seat.pass_on.Goals as goal

pub fetch_add-requires : goal.fetch_add-requires
fetch_add-requires g c = (search rules, search rules, passes_on_at g.V.Logged.facts _ _ _ c.requires.given)

pub returns-clause-rests : goal.returns-clause-rests
returns-clause-rests g c = rests_now g.V.Logged.facts _ _ c.requires.given c.fetch_add.ensures.2
