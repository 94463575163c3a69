-- The seat of a pass between two calls.
use Rattle.std.specs.Prelude.{◌≡◌, ℕ, ◌<◌, ◌+◌, [], ◌∷◌, Some, None}
use Rattle.atomic_table.specs.Seated.{TableId}
use Rattle.atomic_table.specs.declared.shared.Seat.{Seat}
use Rattle.keyed_lock.specs.Rule.{PassState}

-- a table with one word more than slots, and a seat of this table
abbrev pub IsSeatOf : TableId → TableId → Type 0
IsSeatOf table seat = (seat ≡ table) × (table.words ≡ table.slots + 1)

-- a step leaves which table and which seat it is
abbrev pub IsSameSeat : {S V : Type 0} → Seat S V → Seat S V → Type 0
IsSameSeat before after = (after.table_id ≡ before.table_id) × (after.id ≡ before.id)

-- a live pass: where it has a value it has the slot of its place, out of which the value was taken, and else no slot
pub record Poised {V K : Type 0} (me : PassState V K) : Type 0 where
  pub live : 0 < me.0.hold.parts
  pub rests : me.0.hold.held ≡ None → me.1 ≡ []
  pub out : (place : ℕ) → me.0.hold.held ≡ Some place → me.1 ≡ (place, None) ∷ []
