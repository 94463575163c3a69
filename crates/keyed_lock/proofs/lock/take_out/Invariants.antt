use Rattle.std.proofs.Common.{◌≡◌, ◌≤◌, ◌<◌, ℕ, false, get_or, Some, map, take, vec_capacity}
use Rattle.std.specs.Mem.Slots.{slots_filled, slots_items, slots_len}
use Rattle.std.specs.Mem.Slots.Ownership.{Filled}
use Rattle.keyed_lock.proofs.lock.take_out.Given as goal

abbrev pub invariant-loop-place : goal.invariant-loop-place
invariant-loop-place g l = record {
  full : Filled (slots_filled l.closed.slots) l.place (slots_len l.closed.slots);
  gone : (k : ℕ) → k < l.place → get_or (slots_filled l.closed.slots) k false ≡ false;
  same : (slots_items l.closed.slots ≡ slots_items l.fn.closed.slots) × (slots_len l.closed.slots ≡ slots_len l.fn.closed.slots);
  took : map Some l.room.items ≡ take l.place (slots_items l.fn.closed.slots);
  room : slots_len l.fn.closed.slots ≤ vec_capacity l.room;
}
