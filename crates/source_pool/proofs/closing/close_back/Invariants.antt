use Rattle.std.proofs.Common.{length, vec_len, vec_capacity, ◌≤◌, ◌+◌}
use Rattle.source_pool.proofs.CloseLaws.{ClosedFrom}
use Rattle.source_pool.proofs.closing.close_back.Given as goal

abbrev pub invariant-loop-lock : goal.invariant-loop-lock
invariant-loop-lock l = record {
  closed : ClosedFrom (length l.locks.items) l.fn.locks.items l.fn.holds.items l.fn.feeders.items l.locks.items l.holds.items l.feeders.items l.states.items;
  room : vec_len l.states + vec_len l.locks ≤ vec_capacity l.states;
}

abbrev pub decreases-loop-lock : goal.decreases-loop-lock
decreases-loop-lock l = vec_len l.locks
