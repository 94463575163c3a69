-- What holds between any two steps: the one word is the next number, and each number below it was drawn once, by one of all passes.
use Rattle.std.specs.Prelude.{◌≡◌, ◌≢◌, ℕ, ◌-◌, ◌<◌, nat_lt, [], length, slice_index, if◌then◌else◌}
use mathlib.Core.Option as slot
use lib.ListN.{get_elem?}
use Rattle.atomic_table.specs.Table.{State, Me, Step}
use Rattle.atomic_table.specs.Seated.{TableId}
use Rattle.atomic_table.specs.declared.shared.Seat.{Seat}
use Rattle.turn_lock.specs.Rule.{total}
use Rattle.tickets.specs.declared.view.View.{View}
use Rattle.tickets.specs.Draws.{all_parts, times, opened, drawing, with_parts, fresh, joined}

abbrev pub TicketState : Type 0
TicketState = State (Unit {0}) View

abbrev pub PassState : Type 0
PassState = Me (Unit {0}) View

abbrev pub parts_of : View → ℕ
parts_of v = v.has.parts

abbrev pub times_of : ℕ → View → ℕ
times_of number v = times number v.has.drawn

abbrev pub first_view : View
first_view = record { has = opened; offer = 0 }

abbrev pub spent_view : View
spent_view = record { has = fresh 0; offer = 0 }

-- how often a number was drawn before the next one
abbrev pub drawn_before : ℕ → ℕ → ℕ
drawn_before next number = if nat_lt number next then 1 else 0

pub record Ruled (s : TicketState) : Type 0 where
  pub some_word : 0 < length s.words
  pub once : (number : ℕ) → total (times_of number) s.views ≡ drawn_before (slice_index s.words 0) number
  pub spent : (seat : ℕ) (v : View) → get_elem? s.views seat ≡ slot.some v → v.has.parts ≡ 0 → v.has.drawn ≡ []
  pub whole : total parts_of s.views ≡ all_parts

-- where the next number was still the next, it is drawn; else nothing changed
abbrev pub Takes : Step (Unit {0}) → PassState → ℕ → PassState → Type 0
Takes st m found m' = (found ≡ st.first → m' ≡ (record m.0 { has = drawing found m.0.has }, m.1)) × (found ≢ st.first → m' ≡ m)

abbrev pub Offers : Step (Unit {0}) → PassState → ℕ → PassState → Type 0
Offers st m found m' = m' ≡ (record m.0 { offer = st.first }, m.1)

abbrev pub kept_view : View → View
kept_view v = record { has = with_parts (v.has.parts - v.offer) v.has; offer = 0 }

abbrev pub given_view : View → View
given_view v = record { has = fresh v.offer; offer = 0 }

abbrev pub joined_view : View → View → View
joined_view v w = record { has = joined v.has w.has; offer = 0 }

-- a seat of this table, which has one word
abbrev pub IsSeatOf : TableId → TableId → Type 0
IsSeatOf table seat = (seat ≡ table) × (table.words ≡ 1)

abbrev pub IsSameSeat : {S V : Type 0} → Seat S V → Seat S V → Type 0
IsSameSeat before after = (after.table_id ≡ before.table_id) × (after.id ≡ before.id)

-- a live pass, which has no slot
pub record Poised (me : PassState) : Type 0 where
  pub live : 0 < me.0.has.parts
  pub rests : me.1 ≡ []
