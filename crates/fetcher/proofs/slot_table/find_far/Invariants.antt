use Rattle.std.proofs.Common.{◌≡◌, ◌≤◌, length, vec_len, vec_capacity}
use Rattle.fetcher.proofs.slot_table.find_far.Given as goal

abbrev pub invariant-loop-place : goal.invariant-loop-place
invariant-loop-place g l = (vec_len l.far ≡ l.place) × (length l.slots.items ≤ vec_capacity l.far)
