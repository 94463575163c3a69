use Rattle.std.proofs.Common.{sym, append-nil}
use Rattle.wire.proofs.writing.write_reply.Goals as goal

pub returns-in-Some-clause-writes : goal.returns-in-Some-clause-writes
returns-in-Some-clause-writes g c = rw (c.in-Some.is, sym (append-nil c.in-Some.body.now)) c.write_whole.ensures.writes

pub returns-in-None-clause-writes : goal.returns-in-None-clause-writes
returns-in-None-clause-writes g c = rw c.in-None.is c.write_head.ensures.writes
