-- The choice of a random phase, as it is computed, is the one that is defined, and so is what follows a row.
use Rattle.std.proofs.Common.{◌≡◌, ◌≢◌, ◌⊎◌, ◌<◌, ◌≤◌, ◌%◌, ◌==◌, ◌&&◌, inl, inr, ℕ, true, false, cond, List, [], length, map, min, AllPairs, Contains, Option, Some, None, refl, sym, ap, subst, ◌∙◌, arith, get_or, nat_lt, eqb-true, eq-eqb, ne_eqb}
use Rattle.std.specs.List.{slice_get}
use Rattle.std.specs.Option.{option_map}
use Rattle.std.proofs.lemmas.Bool.{cases_Bool, cases_lt, lt-ltb, ltb-true, and_parts, and_from}
use Rattle.std.proofs.lemmas.List.{get_or-map}
use Rattle.std.proofs.lemmas.List.Kept.{AllPairs-filter}
use Rattle.std.proofs.lemmas.List.Elements.{All-contains}
use Rattle.std.proofs.lemmas.Option.{get_or_from_slice_get}
use Rattle.ranked_list.specs.declared.row.Row.{Row}
use Rattle.ranked_list.specs.declared.item.Item.{Item}
use Rattle.topk_theory.specs.Order.{AreDistinct, IsBefore, IsFirstK, first_k}
use Rattle.topk_theory.proofs.FirstK.{first_k-is}
use Rattle.topk_theory.specs.declared.access.Access.{Access}
use Rattle.topk_theory.specs.Transcript.{seen_objects}
use Rattle.topk_theory.specs.Bounds.{high}
use Rattle.topk_theory.specs.NoRandom.{is_viable}
use Rattle.topk_theory.specs.Combined.{unknown_lists, missing_grades, MayBeAsked, IsChoice, IsPhase, candidates, by_high, choice, grades_of_choice, phase_after}
use Rattle.topk_theory.proofs.AgreementLists.{contains_map, contains_map_from, slice_get_contains, slice_get_from_read}
use Rattle.topk_theory.proofs.Agreement.{seen_distinct}
use Rattle.topk_theory.proofs.ThresholdLists.{contains_filter, contains_from_filter, length-map}

-- a random phase may ask for the candidates, and for no other object
pub may_from : (V : List ℕ → ℕ) (k m : ℕ) (A : List Access) (o : ℕ) → Contains (candidates V k m A) o → MayBeAsked V k m A o
may_from V k m A o c =
    let from = contains_from_filter (λ object. is_viable V k m A object && nat_lt 0 (length (unknown_lists m A object))) (seen_objects A) o c in
    let parts = and_parts (is_viable V k m A o) (nat_lt 0 (length (unknown_lists m A o))) from.1 in
    record { seen = from.0; viable = parts.0; unknown = ltb-true 0 (length (unknown_lists m A o)) parts.1 }

may_to : (V : List ℕ → ℕ) (k m : ℕ) (A : List Access) (o : ℕ) → MayBeAsked V k m A o → Contains (candidates V k m A) o
may_to V k m A o may =
    contains_filter (λ object. is_viable V k m A object && nat_lt 0 (length (unknown_lists m A object))) (seen_objects A) o may.seen
    (and_from (is_viable V k m A o) (nat_lt 0 (length (unknown_lists m A o))) may.viable (lt-ltb 0 (length (unknown_lists m A o)) may.unknown))

-- the candidates by high
abbrev ranked : (List ℕ → ℕ) → ℕ → ℕ → List Access → List Item
ranked V k m A = map (by_high V m A) (candidates V k m A)

by_high_distinct : (V : List ℕ → ℕ) (m : ℕ) (A : List Access) (os : List ℕ) → AllPairs (λ (a : ℕ) (b : ℕ). a ≢ b) os → AreDistinct (map (by_high V m A) os)
by_high_distinct V m A os apart = λ i j d lt in_range same.
    let size : length (map (by_high V m A) os) ≡ length os = length-map (by_high V m A) os in
    let at_i : get_or (map (by_high V m A) os) i d ≡ by_high V m A (get_or os i 0) = get_or-map (by_high V m A) os i 0 d (omega arith) in
    let at_j : get_or (map (by_high V m A) os) j d ≡ by_high V m A (get_or os j 0) = get_or-map (by_high V m A) os j 0 d (omega arith) in
    apart i j 0 lt (omega arith) (sym (ap (λ (item : Item). item.object) at_i) ∙ same ∙ ap (λ (item : Item). item.object) at_j)

first_ranked : (V : List ℕ → ℕ) (k m : ℕ) (A : List Access) → IsFirstK 1 (ranked V k m A) (first_k 1 (ranked V k m A))
first_ranked V k m A =
    first_k-is 1 (ranked V k m A) (by_high_distinct V m A (candidates V k m A)
    (AllPairs-filter (λ (a : ℕ) (b : ℕ). a ≢ b) (λ object. is_viable V k m A object && nat_lt 0 (length (unknown_lists m A object))) (seen_objects A) (seen_distinct A)))

-- a list of at most one item has no other one
one_item : (first : List Item) (found other : Item) → length first ≤ 1 → slice_get first 0 ≡ Some found → Contains first other → other ≡ found
one_item first found other short e c =
    let at : c.0 ≡ 0 = (let within = c.1 in omega arith) in
    sym c.2 ∙ ap (λ i. get_or first i other) at ∙ get_or_from_slice_get first 0 found other e

-- which doesn't stand before another has no greater high, and at an equal one no smaller number
not_before : (V : List ℕ → ℕ) (m : ℕ) (A : List Access) (object other : ℕ) → (IsBefore (by_high V m A other) (by_high V m A object) → ⊥)
    → (high V m A other < high V m A object) ⊎ ((high V m A other ≡ high V m A object) × (object ≤ other))
not_before V m A object other behind =
    elim (cases_lt (high V m A other) (high V m A object)) [
      | inl lt ↦ inl lt
      | inr ge ↦ elim (cases_lt (high V m A object) (high V m A other)) [
        | inl gt ↦ absurd (behind (inl gt))
        | inr le ↦
            let same : high V m A other ≡ high V m A object = omega arith in
            inr (same, elim (cases_lt other object) [ inl lt ↦ absurd (behind (inr (same, inr (same, lt)))) | inr up ↦ up ])
      ]
    ]

is_choice : (V : List ℕ → ℕ) (k m : ℕ) (A : List Access) (found : Item) → slice_get (first_k 1 (ranked V k m A)) 0 ≡ Some found → IsChoice V k m A found.object
is_choice V k m A found e =
    let first = first_ranked V k m A in
    let short : length (first_k 1 (ranked V k m A)) ≡ min 1 (length (ranked V k m A)) = first.size in
    let inside : Contains (first_k 1 (ranked V k m A)) found = slice_get_contains (first_k 1 (ranked V k m A)) 0 found e in
    let from = contains_map_from (by_high V m A) (candidates V k m A) found (All-contains (Contains (ranked V k m A)) (first_k 1 (ranked V k m A)) found first.held inside) in
    let named : from.0 ≡ found.object = ap (λ (item : Item). item.object) from.2 in
    let is : found ≡ by_high V m A found.object = sym from.2 ∙ ap (by_high V m A) named in
    record {
      may = may_from V k m A found.object (subst (λ o. Contains (candidates V k m A) o) named from.1);
      greatest = λ other may.
          elim (cases_Bool (other == found.object)) [
            | inl t ↦ let same : other ≡ found.object = eqb-true other found.object t in inr (ap (high V m A) same, (omega arith))
            | inr f ↦ not_before V m A found.object other (λ before.
                first.none_ahead found (by_high V m A other) inside (contains_map (by_high V m A) (candidates V k m A) other (may_to V k m A other may))
                (λ c. true≢other other found.object f (ap (λ (item : Item). item.object) (one_item (first_k 1 (ranked V k m A)) found (by_high V m A other) (omega arith) e c)))
                (subst (λ item. IsBefore (by_high V m A other) item) (sym is) before))
          ];
    }
  where
    true≢other : (a b : ℕ) → (a == b) ≡ false → a ≡ b → ⊥
    true≢other a b f e = let t : (a == b) ≡ true = eq-eqb a b e in cc

no_choice : (V : List ℕ → ℕ) (k m : ℕ) (A : List Access) → slice_get (first_k 1 (ranked V k m A)) 0 ≡ None → (o : ℕ) → MayBeAsked V k m A o → ⊥
no_choice V k m A e o may =
    let first = first_ranked V k m A in
    let c : Contains (ranked V k m A) (by_high V m A o) = contains_map (by_high V m A) (candidates V k m A) o (may_to V k m A o may) in
    let some : 0 < length (ranked V k m A) = (let within = c.1 in omega arith) in
    let one : 0 < length (first_k 1 (ranked V k m A)) = (let size = first.size in omega (arith, size, some)) in
    let found = slice_get_from_read (first_k 1 (ranked V k m A)) 0 (by_high V m A o) one in
    cc

-- the choice as it is computed: that which is defined, or none where nobody may be asked
pub choice_law : (V : List ℕ → ℕ) (k m : ℕ) (A : List Access)
    → ((o : ℕ) × (choice V k m A ≡ Some o) × IsChoice V k m A o) ⊎ ((choice V k m A ≡ None) × ((o : ℕ) → ¬ MayBeAsked V k m A o))
choice_law V k m A = by_found (slice_get (first_k 1 (ranked V k m A)) 0) refl
  where
    by_found : (found : Option Item) → slice_get (first_k 1 (ranked V k m A)) 0 ≡ found
        → ((o : ℕ) × (choice V k m A ≡ Some o) × IsChoice V k m A o) ⊎ ((choice V k m A ≡ None) × ((o : ℕ) → ¬ MayBeAsked V k m A o))
    by_found None e = inr (ap (option_map (λ (item : Item). item.object)) e, no_choice V k m A e)
    by_found (Some found) e = inl (found.object, ap (option_map (λ (item : Item). item.object)) e, is_choice V k m A found e)

-- there is one choice at most
pub one_choice : (V : List ℕ → ℕ) (k m : ℕ) (A : List Access) (a b : ℕ) → IsChoice V k m A a → IsChoice V k m A b → a ≡ b
one_choice V k m A a b one two =
    elim (one.greatest b two.may) [
      | inl lt ↦ elim (two.greatest a one.may) [ inl gt ↦ absurd (omega arith) | inr s ↦ absurd (let e = s.0 in omega arith) ]
      | inr s ↦ elim (two.greatest a one.may) [ inl gt ↦ absurd (let e = s.0 in omega arith) | inr t ↦ (let up = s.1 in let down = t.1 in omega arith) ]
    ]

-- what follows a row, as it is computed, is what is defined, and nothing else is
pub phase_is : (V : List ℕ → ℕ) (k phase depth : ℕ) (D : List (List Row)) (A : List Access) → IsPhase V k phase depth D A (phase_after V k phase depth D A)
phase_is V k phase depth D A = record {
  chosen = λ object e is.
      here e (elim (choice_law V k (length D) A) [
        | inl some ↦ ap (grades_of_choice D A) some.1 ∙ ap (missing_grades D A) (one_choice V k (length D) A some.0 object some.2 is)
        | inr none ↦ absurd (none.1 object is.may)
      ]);
  nobody = λ e none.
      here e (elim (choice_law V k (length D) A) [
        | inl some ↦ absurd (none some.0 some.2.may)
        | inr idle ↦ ap (grades_of_choice D A) idle.0
      ]);
  between = λ ne. ap (λ t. cond {A = List Access} t (grades_of_choice D A (choice V k (length D) A)) []) (ne_eqb (depth % phase) 0 ne);
}
  where
    here : {X : List Access} → depth % phase ≡ 0 → grades_of_choice D A (choice V k (length D) A) ≡ X → phase_after V k phase depth D A ≡ X
    here e is = ap (λ t. cond {A = List Access} t (grades_of_choice D A (choice V k (length D) A)) []) (eq-eqb (depth % phase) 0 e) ∙ is

pub phase_only : (V : List ℕ → ℕ) (k phase depth : ℕ) (D : List (List Row)) (A following : List Access) → IsPhase V k phase depth D A following
    → following ≡ phase_after V k phase depth D A
phase_only V k phase depth D A following is =
    let made = phase_is V k phase depth D A in
    elim (cases_Bool ((depth % phase) == 0)) [
      | inl t ↦
          let e : depth % phase ≡ 0 = eqb-true (depth % phase) 0 t in
          elim (choice_law V k (length D) A) [
            | inl some ↦ is.chosen some.0 e some.2 ∙ sym (made.chosen some.0 e some.2)
            | inr none ↦ is.nobody e none.1 ∙ sym (made.nobody e none.1)
          ]
      | inr f ↦ (let ne : depth % phase ≢ 0 = λ e. (let t : ((depth % phase) == 0) ≡ true = eq-eqb (depth % phase) 0 e in cc) in is.between ne ∙ sym (made.between ne))
    ]
