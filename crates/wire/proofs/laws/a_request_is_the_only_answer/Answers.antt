use Rattle.wire.proofs.OnlyLaws.{request_only, request_whole, request_short}
use Rattle.wire.proofs.laws.a_request_is_the_only_answer.Goals as goal

pub returns-clause-only : goal.returns-clause-only
returns-clause-only c = request_only

pub returns-clause-whole : goal.returns-clause-whole
returns-clause-whole c = request_whole

pub returns-clause-short : goal.returns-clause-short
returns-clause-short c = request_short
