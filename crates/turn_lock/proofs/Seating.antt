-- What the steps make of a seat that is at rest, waits, or has the turn.
use Rattle.std.proofs.Common.{◌≡◌, ℕ, ◌+◌, ◌%◌, ◌^◌, ◌<◌, List, [], ◌∷◌, length, Option, Some, None, refl, sym, ap, ◌∙◌, subst}
use mathlib.Core.Option as slot
use lib.ListN.{get_elem?}
use prog.Atomic.{either}
use lib.Dec.{eqb}
use Rattle.atomic_table.specs.Table.{Step, step, rest, Allows, Splits, Joins, opening, Final, Seen}
use Rattle.turn_lock.specs.declared.facts.Facts.{Facts}
use Rattle.turn_lock.specs.declared.known.Known.{Known}
use Rattle.turn_lock.specs.Known.{all_parts, KnowsOf, holding, after_turn}
use Rattle.turn_lock.specs.Rule.{PassState, first_view, spent_view, Ruled}
use Rattle.turn_lock.specs.Steps.{IsDrawn, Grabs, Watches, Counts, PassesOn, Compares, kept_view, given_view, joined_view}
use Rattle.turn_lock.specs.Seats.{Rests, InTurn, Waits, Took, MayGive, GivesTurn, Counted, Gave, Poised}
use Rattle.turn_lock.proofs.Turning.{in_hand, grabs, watches, counts, passes_on}
use Rattle.turn_lock.proofs.Sharing.{covers_first, covers_second, compares, splits, joins, opens, closes}

-- what most steps tell is the same whatever was found
abbrev no_step : {S : Type 0} → Step S
no_step = step 0 0 0 0 slot.none

module _ {V E : Type 0} (facts : V → Facts E) where
  pub grabs_at : (slots id old new : ℕ) (m : PassState V E) → Rests m → new ≡ (old + 1) % 2 ^ 64
      → Allows (Ruled facts) slots id m 0 (λ n. either (eqb n old) new n) (Grabs (step slots 0 old new slot.none) m)
  grabs_at slots id old new m h next = grabs facts slots id m old new h.free h.live next

  -- a pass that drew a ticket waits for it
  pub waits_now : (m m' : PassState V E) (ticket : ℕ) → Rests m → IsDrawn ticket m m' → Waits ticket m'
  waits_now m m' ticket h d = subst (λ (z : PassState V E). Waits ticket z) (sym d.1)
      record { live = h.live; drawn = d.0; free = refl; idle = h.idle; empty = h.empty; is = d.2 }

  pub watches_at : (slots id ticket : ℕ) (m : PassState V E) → Waits ticket m
      → Allows (Ruled facts) slots id m 1 (λ n. n) (Watches facts (step slots 1 0 0 slot.none) m)
  watches_at slots id ticket m h = watches facts slots id m h.drawn h.free h.idle h.live h.empty

  -- the ticket that was found is the one that was waited for
  pub took_now : (m m₀ m' : PassState V E) (ticket found : ℕ) → Waits ticket m → m₀ ≡ m → Watches facts no_step m₀ found m' → found ≡ ticket
      → Took facts m m'
  took_now m m₀ m' ticket found h same w e =
      let seen = (subst (λ (z : PassState V E). Watches facts no_step z found m') same w) h.drawn h.free in
      let t = seen.0 (h.is ∙ sym e) in
      record { value = t.0; has = t.1; agrees = t.2 }

  -- the value is taken out of the hand, after a ticket was drawn and served
  pub entered : (m m₁ m₂ m₃ : PassState V E) (ticket : ℕ) (r : Option V) (y : V) → Rests m → IsDrawn ticket m m₁ → (t : Took facts m₁ m₂)
      → m₂.1 ≡ (0, r) ∷ rest m₂.1 → r ≡ Some y → m₃ ≡ (m₂.0, (0, None) ∷ rest m₂.1)
      → InTurn m₃ × (m₃.0.known ≡ holding (facts y) m.0.known)
  entered m m₁ m₂ m₃ ticket r y h d t out is e =
      let same : t.value ≡ y = ap (in_hand t.value) ((ap (λ (z : PassState V E). z.1) (sym t.has)) ∙
      (out ∙ ap (λ (o : Option V). (0, o) ∷ rest m₂.1) is)) in
      let known : m₁.0.known ≡ m.0.known = ap (λ (z : PassState V E). z.0.known) d.1 in
      let now : m₃ ≡ (record m₁.0 { known = holding (facts y) m.0.known }, (0, None) ∷ []) =
      e ∙ (λ i. ((t.has i).0, (0, None) ∷ rest (t.has i).1)) ∙ (λ i. (record m₁.0 { known = holding (facts (same i)) (known i) }, (0, None) ∷ [])) in
      subst (λ (z : PassState V E). InTurn z × (z.0.known ≡ holding (facts y) m.0.known)) (sym now)
      (record { live = h.live; taken = facts y; holds = refl; out = refl }, refl)

  pub in_slot : (m m' : PassState V E) (t : Took facts m m') → m'.1 ≡ (0, Some t.value) ∷ rest m'.1
  in_slot m m' t = ap (λ (z : PassState V E). z.1) t.has ∙ sym (ap (λ (z : PassState V E). (0, Some t.value) ∷ rest z.1) t.has)

  -- the value is in the hand
  pub put_in : (m m' : PassState V E) (y : V) → InTurn m → m' ≡ (m.0, (0, Some y) ∷ rest m.1) → m' ≡ (m.0, (0, Some y) ∷ [])
  put_in m m' y h e = e ∙ ap (λ (l : List (ℕ × Option V)). (m.0, (0, Some y) ∷ rest l)) h.out

  pub gives_now : (m m' : PassState V E) (y : V) (n : ℕ) → InTurn m → MayGive (facts y) m.0.known → n ≡ length (facts y).log
      → m' ≡ (m.0, (0, Some y) ∷ []) → GivesTurn facts n m'
  gives_now m m' y n h may long e = subst (λ (z : PassState V E). GivesTurn facts n z) (sym e)
      record { live = h.live; taken = h.taken; holds = h.holds; value = y; hand = refl; may = may; long = long }

  pub counts_at : (slots id n : ℕ) (m : PassState V E) → GivesTurn facts n m
      → Allows (Ruled facts) slots id m 2 (λ _. n) (λ _. Counts facts (step slots 2 n 0 slot.none) m n)
  counts_at slots id n m h = counts facts slots id m h.taken h.value n h.holds h.hand h.live (h.may.grows h.taken h.holds)
      (h.may.keeps h.taken h.holds) h.long

  pub gave_now : (m m' : PassState V E) (n : ℕ) → GivesTurn facts n m → Counts facts no_step m 0 m' → Gave facts m'
  gave_now m m' n h c = subst (λ (z : PassState V E). Gave facts z) (sym (c h.taken h.value h.holds h.hand)) record {
    live = h.live;
    value = h.value;
    holds = refl;
    hand = h.hand;
  }

  pub counted : (m m' : PassState V E) → Counts facts no_step m 0 m' → Counted facts m m'
  counted m m' c f y holds hand = ap (λ (z : PassState V E). z.0.known) (c f y holds hand)

  pub passes_on_at : (slots id : ℕ) (m : PassState V E) → Gave facts m → Allows (Ruled facts) slots id m 1 (λ n. (n + 1) % 2 ^ 64)
      (PassesOn (step slots 1 1 0 slot.none) m)
  passes_on_at slots id m h = passes_on facts slots id m h.value h.holds h.hand

  pub rests_now : (m m' : PassState V E) → Gave facts m → PassesOn no_step m 0 m' → Rests m'
  rests_now m m' h p = subst (λ (z : PassState V E). Rests z) (sym p) record { live = h.live; free = refl; idle = refl; empty = ap rest h.hand }

  -- what the pass knows after its turn
  pub left : (m m₁ m₂ m₃ : PassState V E) (y : V) → m₁ ≡ (m.0, (0, Some y) ∷ []) → Counted facts m₁ m₂
      → m₃.0.known ≡ record m₂.0.known { held = None }
      → (f : Facts E) → m.0.known.held ≡ Some f → m₃.0.known ≡ after_turn f (facts y) m.0.known
  left m m₁ m₂ m₃ y put count pass f holds =
      let known : m₁.0.known ≡ m.0.known = ap (λ (z : PassState V E). z.0.known) put in
      let was : m₁.0.known.held ≡ Some f = ap (λ (k : Known E). k.held) known ∙ holds in
      pass ∙ (ap (λ (k : Known E). record k { held = None }) (count f y was (ap (λ (z : PassState V E). z.1) put))
      ∙ ap (λ (k : Known E). after_turn f (facts y) k) known)

  pub splits_at : (id : ℕ) (m m' : PassState V E) (parts : ℕ) → Rests m → 0 < parts → parts < m.0.known.parts
      → m' ≡ (record m.0 { offer = parts }, m.1) → Splits (Ruled facts) id m'.0 (kept_view m'.0) (given_view m'.0)
  splits_at id m m' parts h some_parts some_left e = subst (λ (z : PassState V E). Splits (Ruled facts) id z.0 (kept_view z.0) (given_view z.0))
      (sym e)
      (splits facts id (record m.0 { offer = parts }) h.free h.idle some_parts some_left)

  pub joins_at : (id other : ℕ) (m u : PassState V E) → Rests m → Rests u → Joins (Ruled facts) id m.0 other u.0 (joined_view m.0 u.0) spent_view
  joins_at id other m u h k = joins facts id m.0 other u.0 h.free h.idle k.free k.idle h.live

  pub compares_at : (slots id : ℕ) (m m' u : PassState V E) → m' ≡ (joined_view m.0 u.0, m.1)
      → Allows (Ruled facts) slots id m' 0 (λ n. n) (Compares (step slots 0 0 0 slot.none) m')
  compares_at slots id m m' u e = subst (λ (z : PassState V E). Allows (Ruled facts) slots id z 0 (λ n. n)
      (Compares (step slots 0 0 0 slot.none) z)) (sym e)
      (compares facts slots id (joined_view m.0 u.0, m.1) (covers_first m.0.known u.0.known) (covers_second m.0.known u.0.known))

-- a pass that was joined to another was one of the same value
pub named_at : {V E : Type 0} → (m m' u : PassState V E) → m' ≡ (joined_view m.0 u.0, m.1) → (0 < m'.0.other.parts → m'.0.other.name ≡ m'.0.known.name) → Rests u
    → u.0.known.name ≡ m.0.known.name
named_at {V} {E} m m' u e h rests = subst (λ (z : PassState V E). (0 < z.0.other.parts → z.0.other.name ≡ z.0.known.name)) e h rests.live

module _ {V E : Type 0} (facts : V → Facts E) where
  pub opens_at : (n : ℕ) (xs : List (Option V)) (z y : V) → n ≡ length (facts y).log → xs ≡ Some y ∷ [] → z ≡ y
      → Ruled facts (opening (0 ∷ 0 ∷ n ∷ []) xs (first_view (facts z)))
  opens_at n xs z y long is same = subst (λ (t : ℕ × List (Option V) × V). Ruled facts (opening (0 ∷ 0 ∷ t.0 ∷ []) t.1 (first_view (facts t.2))))
      (λ i. (sym long i, sym is i, sym same i)) (opens facts y)

  -- what is in the slot at the close is a value, and agrees with the pass
  pub closed : (id : ℕ) (m : PassState V E) (pass : Known E) (ws : List ℕ) (xs : List (Option V)) (o : Option V)
      → Final (Seen (Ruled facts) id m.0) ws xs → Poised m → m.0.known ≡ pass
      → pass.held ≡ None → pass.parts ≡ all_parts → get_elem? xs 0 ≡ slot.some o → (y : V) × (o ≡ Some y) × KnowsOf (facts y) pass
  closed id m pass ws xs o f h is idle whole there =
      let idle' : m.0.known.held ≡ None = ap (λ (k : Known E). k.held) is ∙ idle in
      let c = closes facts id m.0 ws xs f ((h.rests idle').0) idle' (ap (λ (k : Known E). k.parts) is ∙ whole) in
      (c.0, slot.some-injective o (Some c.0) (sym there ∙ c.1), subst (λ (k : Known E). KnowsOf (facts c.0) k) is c.2)

  pub closed_value : (pass : Known E) (o : Option V) (y : V) → o ≡ Some y → (z : V) × (o ≡ Some z) × KnowsOf (facts z) pass → KnowsOf (facts y) pass
  closed_value pass o y is c = subst (λ (z : V). KnowsOf (facts z) pass) (let same : c.0 ≡ y = (let e = c.1 in cc) in same) c.2

  pub closed_some : (pass : Known E) (o : Option V) → o ≡ None → (z : V) × (o ≡ Some z) × KnowsOf (facts z) pass → ⊥
  closed_some pass o is c = let e = c.1 in cc
