use Rattle.wire.proofs.FindLaws.{long_request}
use Rattle.wire.proofs.request.request_of.Goals as goal

pub returns-then-spans : goal.returns-then-spans
returns-then-spans c = let reads = c.requires.reads in long_request c.args.came.now c.args.spans.now.len reads.0 reads.1.reads reads.1.len c.if-spans.true
