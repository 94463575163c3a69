use Rattle.std.proofs.Common.{◌≡◌, take}
use Rattle.query_run.specs.Made.{opened_from}
use Rattle.test_worlds.proofs.world.open_all.Given as goal

-- the sources so far are opened
abbrev pub invariant-loop-place : goal.invariant-loop-place
invariant-loop-place l = l.states.items ≡ opened_from 0 (take l.place l.counts)
