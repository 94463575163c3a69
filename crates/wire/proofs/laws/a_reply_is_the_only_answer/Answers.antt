use Rattle.wire.proofs.OnlyLaws.{reply_only, reply_whole, reply_short}
use Rattle.wire.proofs.laws.a_reply_is_the_only_answer.Goals as goal

pub returns-clause-only : goal.returns-clause-only
returns-clause-only c = reply_only

pub returns-clause-whole : goal.returns-clause-whole
returns-clause-whole c = reply_whole

pub returns-clause-short : goal.returns-clause-short
returns-clause-short c = reply_short
