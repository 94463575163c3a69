use Rattle.std.proofs.Common.{take}
use Rattle.std.specs.List.{AllZip}
use Rattle.query_run.specs.Made.{IsFresh}
use Rattle.test_worlds.proofs.world.make_all.Given as goal

-- the queries so far are fresh
abbrev pub invariant-loop-place : goal.invariant-loop-place
invariant-loop-place l = AllZip IsFresh (take l.place l.readies) l.queries.items
