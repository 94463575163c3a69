use Rattle.std.proofs.Common.{All}
use Rattle.query_run.specs.Made.{IsReadyFor}
use Rattle.test_query_support.proofs.readies.readies_beside.Given as goal

-- the queries so far are ready
abbrev pub invariant-loop-one : goal.invariant-loop-one
invariant-loop-one l = All (IsReadyFor l.counts) l.readies.items
