-- What each step on the table of a lock tells the pass that makes it: how its view changes, and what it learns.
use Rattle.std.specs.Prelude.{◌≡◌, ◌≢◌, ℕ, ◌-◌, [], ◌∷◌, Option, None, Some}
use Rattle.atomic_table.specs.Table.{Step, rest}
use Rattle.keyed_lock.specs.declared.view.View.{View}
use Rattle.keyed_lock.specs.Hold.{holding, with_parts, joined, KeepsFact}
use Rattle.keyed_lock.specs.Rule.{PassState}

module _ {V K : Type 0} where
  -- where no pass had the value of the place it has the slot with the value, which keeps the fact; else nothing changed
  abbrev pub Grabs : (K → ℕ → V → Type 0) → Step (Option V) → PassState V K → ℕ → PassState V K → Type 0
  Grabs fact st m found m' =
      (found ≡ 0 → (y : V) × (m' ≡ (record m.0 { hold = holding (Some st.word) m.0.hold }, (st.word, Some y) ∷ [])) × KeepsFact fact m.0.hold st.word y)
      × (found ≢ 0 → m' ≡ m)

  -- it has no value any more, and the slot is home
  abbrev pub Releases : Step (Option V) → PassState V K → ℕ → PassState V K → Type 0
  Releases st m found m' = m' ≡ (record m.0 { hold = holding None m.0.hold }, rest m.1)

  -- so many parts go to the next pass that is split off
  abbrev pub Offers : Step (Option V) → PassState V K → ℕ → PassState V K → Type 0
  Offers st m found m' = m' ≡ (record m.0 { offer = st.first }, m.1)

module _ {K : Type 0} where
  -- the pass from which another was split off
  abbrev pub kept_view : View K → View K
  kept_view v = record { hold = with_parts (v.hold.parts - v.offer) v.hold; offer = 0 }

  -- the pass that was split off
  abbrev pub given_view : View K → View K
  given_view v = record { hold = with_parts v.offer v.hold; offer = 0 }

  -- the pass that another was joined to
  abbrev pub joined_view : View K → View K → View K
  joined_view v w = record { hold = joined v.hold w.hold; offer = 0 }
