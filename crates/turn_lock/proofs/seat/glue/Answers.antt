use Rattle.std.proofs.Common.{rules}
use Rattle.turn_lock.proofs.Seating.{joins_at, compares_at, named_at}
use Rattle.turn_lock.proofs.seat.glue.Goals as goal

pub join_seat-requires : goal.join_seat-requires
join_seat-requires g c = (search rules, search rules, search rules, search rules, joins_at g.V.Logged.facts _ _ _ _ c.requires.rests.0 c.requires.rests.1)

pub load-requires : goal.load-requires
load-requires g c = (search rules, search rules, compares_at g.V.Logged.facts _ _ c.args.seat.now.me _ c.args.other.me c.join_seat.ensures.2)

pub returns-clause-name : goal.returns-clause-name
returns-clause-name g c = named_at c.args.seat.now.me _ c.args.other.me c.join_seat.ensures.2 c.load.ensures.2.3 c.requires.rests.1
