use Rattle.std.proofs.Common.{◌≡◌, map, take}
use Rattle.bulk_run.specs.Held.{fresh_slot}
use Rattle.bulk_run.proofs.slots.put_slots.Given as goal

-- the slots of the lists so far
abbrev pub invariant-loop-place : goal.invariant-loop-place
invariant-loop-place l = l.slots.items ≡ map fresh_slot (take l.place l.table)
