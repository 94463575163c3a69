use Rattle.std.proofs.Common.{arith}
use Rattle.test_parts.proofs.PassLaws.{ready_back}
use Rattle.test_parts.proofs.runs.bench.Goals as goal

pub join_readers-requires-clause-own : goal.join_readers-requires-clause-own
join_readers-requires-clause-own g c = c.run_at_once.ensures.writer.0

pub join_readers-requires-clause-parts : goal.join_readers-requires-clause-parts
join_readers-requires-clause-parts g c =
    let all = c.split_readers.ensures.parts in
    let same = c.run_at_once.ensures.writer.1 in
    omega (arith, all, same)

pub join_readers-requires-clause-ready : goal.join_readers-requires-clause-ready
join_readers-requires-clause-ready g c =
    ready_back c.in_ok-lock.lock c.split_readers.new.readers.len c.run_at_once.new.readers c.split_readers.new.readers.items
    c.run_at_once.ensures.readers c.split_readers.ensures.ready
