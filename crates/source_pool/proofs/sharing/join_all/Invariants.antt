use Rattle.std.proofs.Common.{length, vec_len}
use Rattle.source_pool.proofs.Walks.{JoinedFrom}
use Rattle.source_pool.proofs.sharing.join_all.Given as goal

abbrev pub invariant-loop-other : goal.invariant-loop-other
invariant-loop-other l = JoinedFrom (length l.others.items) l.fn.holds.items l.fn.others.items l.holds.items l.others.items

abbrev pub decreases-loop-other : goal.decreases-loop-other
decreases-loop-other l = vec_len l.others
