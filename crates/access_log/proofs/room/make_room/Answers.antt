use Rattle.std.proofs.Common.{rules}
use Rattle.access_log.proofs.room.make_room.Goals as goal

pub returns-in-Some-clause-refused : goal.returns-in-Some-clause-refused
returns-in-Some-clause-refused c = search rules
