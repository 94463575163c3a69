use Rattle.std.proofs.Common.{◌≡◌, ◌≤◌, vec_len, vec_capacity}
use Rattle.fetcher.proofs.slot_table.make_notifies.Given as goal

abbrev pub invariant-loop-made : goal.invariant-loop-made
invariant-loop-made l = (vec_len l.notifies ≡ l.made) × (l.count ≤ vec_capacity l.notifies)
