use Rattle.std.proofs.Common.{◌≡◌, All, None}
use Rattle.test_batch_run.proofs.batch_runs.add_slots.Given as goal

-- no slot so far has a feeder
abbrev pub invariant-loop-one : goal.invariant-loop-one
invariant-loop-one l = All (λ slot. slot.feeder ≡ None) l.slots.items
