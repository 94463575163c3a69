use Rattle.std.proofs.Common.{◌≡◌, take}
use Rattle.bulk_run.specs.Endings.{sums_over}
use Rattle.bulk_run.proofs.sums.sums_of.Given as goal

-- the sums over the endings so far
abbrev pub invariant-loop-place : goal.invariant-loop-place
invariant-loop-place l = l.sums ≡ sums_over (take l.place l.endings)
