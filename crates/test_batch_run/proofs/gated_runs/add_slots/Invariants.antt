use Rattle.std.proofs.Common.{◌≡◌, All, None}
use Rattle.test_batch_run.proofs.gated_runs.add_slots.Given as goal

-- no slot so far has a feeder
abbrev pub invariant-loop-number : goal.invariant-loop-number
invariant-loop-number l = All (λ slot. slot.feeder ≡ None) l.slots.items
