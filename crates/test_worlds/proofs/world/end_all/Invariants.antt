use Rattle.std.proofs.Common.{◌≤◌, ◌+◌, length, vec_len, vec_capacity}
use Rattle.test_worlds.proofs.Making.{EndsSoFar}
use Rattle.test_worlds.proofs.world.end_all.Given as goal

-- the queries that are left, the last one first, and the endings of those before them, with room for the others'
abbrev pub invariant-loop-query : goal.invariant-loop-query
invariant-loop-query l = record {
  so_far : EndsSoFar l.fn.queries.items l.queries.items l.endings.items;
  room : vec_len l.endings + vec_len l.queries ≤ vec_capacity l.endings;
}

abbrev pub decreases-loop-query : goal.decreases-loop-query
decreases-loop-query l = length l.queries.items
