use Rattle.std.proofs.Common.{vec_len}
use Rattle.test_parts.proofs.PassLaws.{join_more}
use Rattle.test_parts.proofs.readers.join_readers.Goals as goal

pub loop-reader-preserved : goal.loop-reader-preserved
loop-reader-preserved c =
    join_more c.args.lock.now c.loop-reader.pass c.join.new.pass (vec_len c.loop-reader.readers) (vec_len c.pop.new.self)
    c.loop-reader.readers.items c.pop.new.self.items c.in-Some.reader
    c.join.ensures.pass c.loop-reader.invariant.0 c.loop-reader.invariant.1 c.loop-reader.invariant.2 c.in-Some.ensures.cases c.in-Some.ensures.items
