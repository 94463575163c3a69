-- What each step on the table of a lock tells the pass that makes it: how its view changes, and what it learns.
use Rattle.std.specs.Prelude.{◌≡◌, ◌≢◌, ◌<◌, ℕ, ◌%◌, ◌^◌, [], ◌∷◌, Option, Some, None}
use Rattle.atomic_table.specs.Table.{Step, rest}
use Rattle.turn_lock.specs.declared.facts.Facts.{Facts}
use Rattle.turn_lock.specs.declared.view.View.{View}
use Rattle.turn_lock.specs.Known.{KnowsOf, Follows, holding, after_turn, without, split_off, joined}
use Rattle.turn_lock.specs.Rule.{PassState, nobody, resting}

module _ {V E : Type 0} where
  -- it has this ticket, counted without end
  abbrev pub IsDrawn : ℕ → PassState V E → PassState V E → Type 0
  IsDrawn ticket m m' = (k : ℕ) × (m' ≡ (record m.0 { ticket = Some k }, m.1)) × (k % 2 ^ 64 ≡ ticket)

  -- where the next ticket is the expected one it has this ticket, else nothing changed
  abbrev pub Grabs : Step (Option V) → PassState V E → ℕ → PassState V E → Type 0
  Grabs st m found m' = (found ≡ st.first → IsDrawn found m m') × (found ≢ st.first → m' ≡ m)

  -- where its ticket is served it has the slot with the value, which agrees with it
  abbrev pub Watches : (V → Facts E) → Step (Option V) → PassState V E → ℕ → PassState V E → Type 0
  Watches facts st m found m' =
      (k : ℕ) → m.0.ticket ≡ Some k
      → (k % 2 ^ 64 ≡ found → (y : V) × (m' ≡ (record m.0 { known = holding (facts y) m.0.known }, (0, Some y) ∷ [])) × KnowsOf (facts y) m.0.known)
      × (k % 2 ^ 64 ≢ found → m' ≡ m)

  -- what is in force is now the value in its hand
  abbrev pub Counts : (V → Facts E) → Step (Option V) → PassState V E → ℕ → PassState V E → Type 0
  Counts facts st m found m' = (f : Facts E) (y : V) → m.0.known.held ≡ Some f → m.1 ≡ (0, Some y) ∷ []
      → m' ≡ (record m.0 { known = holding (facts y) (after_turn f (facts y) m.0.known) }, m.1)

  -- its turn is over, and the slot is home
  abbrev pub PassesOn : Step (Option V) → PassState V E → ℕ → PassState V E → Type 0
  PassesOn st m found m' = m' ≡ (record m.0 { ticket = None; known = record m.0.known { held = None } }, rest m.1)

  -- so many parts go to the next pass that is split off
  abbrev pub Offers : Step (Option V) → PassState V E → ℕ → PassState V E → Type 0
  Offers st m found m' = m' ≡ (record m.0 { offer = st.first }, m.1)

  -- it has seen all that the two passes had seen that were joined to it
  abbrev pub Compares : Step (Option V) → PassState V E → ℕ → PassState V E → Type 0
  Compares st m found m' = (m' ≡ (record m.0 { one = nobody; other = nobody }, m.1)) × Follows m.0.one m.0.known × Follows m.0.other m.0.known
      × (0 < m.0.other.parts → m.0.other.name ≡ m.0.known.name)

module _ {E : Type 0} where
  -- the pass from which another was split off
  abbrev pub kept_view : View E → View E
  kept_view v = record v { known = without v.offer v.known; offer = 0 }

  -- the pass that was split off
  abbrev pub given_view : View E → View E
  given_view v = resting (split_off v.offer v.known)

  -- the pass that another was joined to, which still has to compare what both saw
  abbrev pub joined_view : View E → View E → View E
  joined_view v w = record { ticket = None; known = joined v.known w.known; one = v.known; other = w.known; offer = 0 }
