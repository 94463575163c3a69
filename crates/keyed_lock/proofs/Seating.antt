-- What the steps make of the seat of a pass.
use Rattle.std.proofs.Common.{◌≡◌, ℕ, ◌<◌, List, [], ◌∷◌, map, length, replicate, Option, Some, None, refl, sym, ap, ◌∙◌, subst}
use mathlib.Core.Option as slot
use mathlib.Core.Option.{some}
use lib.ListN.{get_elem?, get_or-replicate, length-replicate}
use Rattle.std.proofs.lemmas.List.{length-map}
use Rattle.atomic_table.specs.Table.{step, rest, Allows, Splits, Joins, opening, Final, Seen}
use Rattle.keyed_lock.specs.declared.hold.Hold.{Hold}
use Rattle.keyed_lock.specs.Hold.{all_parts, KeepAll, KeepsFact}
use Rattle.keyed_lock.specs.Rule.{PassState, first_view, spent_view, Ruled}
use Rattle.keyed_lock.specs.Steps.{Grabs, Releases, kept_view, given_view, joined_view}
use Rattle.keyed_lock.specs.Seats.{Poised}
use Rattle.keyed_lock.proofs.Places.{all_some, keep_of}
use Rattle.keyed_lock.proofs.Keeping.{releases, splits, joins, opens, closes}

module _ {V K : Type 0} (fact : K → ℕ → V → Type 0) where
  -- the slot is in the handle, with the value
  pub slot_found : (place : ℕ) (m m₁ : PassState V K) (n : ℕ) → Grabs fact (step 0 place 0 0 slot.none) m n m₁ → n ≡ 0
      → (r : Option V) × (m₁.1 ≡ (place, r) ∷ rest m₁.1)
  slot_found place m m₁ n g hit = let t = g.0 hit in
      (Some t.0, ap (λ (z : PassState V K). z.1) t.1 ∙ sym (ap (λ (z : PassState V K). (place, Some t.0) ∷ rest z.1) t.1))

  pub put_in : (m m' : PassState V K) (place : ℕ) (y : V) → Poised m → m.0.hold.held ≡ Some place → m' ≡ (m.0, (place, Some y) ∷ rest m.1)
      → m' ≡ (m.0, (place, Some y) ∷ [])
  put_in m m' place y h held e = e ∙ ap (λ (l : List (ℕ × Option V)). (m.0, (place, Some y) ∷ rest l)) (h.out place held)

  pub releases_at : (slots id place : ℕ) (key : K) (m m' : PassState V K) (y : V) → place < slots → Poised m → m.0.hold.held ≡ Some place
      → KeepsFact fact m.0.hold place y → m' ≡ (m.0, (place, Some y) ∷ rest m.1)
      → Allows (Ruled fact key) slots id m' place (λ _. 0) (λ _. Releases (step slots place 0 0 slot.none) m' 0)
  releases_at slots id place key m m' y below h held kept e =
      subst (λ (z : PassState V K). Allows (Ruled fact key) slots id z place (λ _. 0) (λ _. Releases (step slots place 0 0 slot.none) z 0))
      (sym (put_in m m' place y h held e)) (releases fact slots id place key (m.0, (place, Some y) ∷ []) y below h.live held refl kept)

  pub splits_at : (id : ℕ) (key : K) (m m' : PassState V K) (parts : ℕ) → m.0.hold.held ≡ None → 0 < parts → parts < m.0.hold.parts
      → m' ≡ (record m.0 { offer = parts }, m.1) → Splits (Ruled fact key) id m'.0 (kept_view m'.0) (given_view m'.0)
  splits_at id key m m' parts idle some_parts some_left e =
      subst (λ (z : PassState V K). Splits (Ruled fact key) id z.0 (kept_view z.0) (given_view z.0)) (sym e)
      (splits fact id key (record m.0 { offer = parts }) idle some_parts some_left)

  pub joins_at : (id other : ℕ) (key : K) (m u : PassState V K) → Poised m → m.0.hold.held ≡ None → u.0.hold.held ≡ None
      → Joins (Ruled fact key) id m.0 other u.0 (joined_view m.0 u.0) spent_view
  joins_at id other key m u h idle idle' = joins fact id key m.0 other u.0 idle idle' h.live

  pub opens_at : (key : K) (ws : List ℕ) (xs : List (Option V)) (values : List V) (count : ℕ) → ws ≡ replicate count 0 → xs ≡ map Some values
      → length values < count → KeepAll fact key values → Ruled fact key (opening ws xs (first_view key))
  opens_at key ws xs values count zeros are more keep =
      subst (λ (z : List ℕ × List (Option V)). Ruled fact key (opening z.0 z.1 (first_view key))) (λ i. (sym zeros i, sym are i))
      (opens fact key (replicate count 0) values (subst (λ n. length values < n) (sym (length-replicate count 0)) more)
      (λ i l. get_or-replicate count i 0 0 (subst (λ n. i < n) (length-replicate count 0) l)) keep)

  -- what is in the slots at the close by the pass with all parts
  pub closed_each : (id : ℕ) (key : K) (m : PassState V K) (hold : Hold K) (ws : List ℕ) (xs : List (Option V)) → Final (Seen (Ruled fact key) id m.0) ws xs
      → m.0.hold ≡ hold → hold.held ≡ None → hold.parts ≡ all_parts
      → (place : ℕ) → place < length xs → (y : V) × (get_elem? xs place ≡ some (Some y)) × fact key place y
  closed_each id key m hold ws xs f is idle whole =
      closes fact id key m.0 ws xs f (ap (λ (h : Hold K). h.held) is ∙ idle) (ap (λ (h : Hold K). h.parts) is ∙ whole)

  pub closed_all : (id : ℕ) (key : K) (m : PassState V K) (hold : Hold K) (ws : List ℕ) (xs : List (Option V)) → Final (Seen (Ruled fact key) id m.0) ws xs
      → m.0.hold ≡ hold → hold.held ≡ None → hold.parts ≡ all_parts → (values : List V) × (xs ≡ map Some values)
  closed_all id key m hold ws xs f is idle whole = all_some xs (λ i l. let o = closed_each id key m hold ws xs f is idle whole i l in (o.0, o.1))

  pub closed_keep : (id : ℕ) (key own : K) (m : PassState V K) (hold : Hold K) (ws : List ℕ) (xs : List (Option V)) (values : List V)
      → Final (Seen (Ruled fact key) id m.0) ws xs → m.0.hold ≡ hold → hold.held ≡ None → hold.parts ≡ all_parts → key ≡ own
      → xs ≡ map Some values → KeepAll fact own values
  closed_keep id key own m hold ws xs values f is idle whole same are =
      subst (λ (k : K). KeepAll fact k values) same
      (keep_of fact key xs values are (closed_each id key m hold ws xs f is idle whole) (ap length are ∙ length-map values Some))
