use Rattle.std.proofs.Common.{◌≡◌, length, take}
use Rattle.std.specs.List.{sum_by}
use Rattle.bulk_run.proofs.sums.low_of.Given as goal

-- the sum of the items so far
abbrev pub invariant-loop-item : goal.invariant-loop-item
invariant-loop-item l = l.sum ≡ sum_by (λ item. item.low) (take (length l.yielded) l.items)
