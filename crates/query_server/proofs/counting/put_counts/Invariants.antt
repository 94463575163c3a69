use Rattle.query_server.proofs.HomeLaws.{CountedTo}
use Rattle.query_server.proofs.counting.put_counts.Given as goal

abbrev pub invariant-loop-place : goal.invariant-loop-place
invariant-loop-place l = CountedTo l.place l.entries l.fn.counts l.counts
