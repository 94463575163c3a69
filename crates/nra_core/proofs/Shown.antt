-- On a table that agrees, the algorithm is quiet exactly where the transcript alone shows it.
use Rattle.std.proofs.Common.{◌≡◌, ◌≢◌, ◌⊎◌, inl, inr, ℕ, zero, suc, min, ◌+◌, ◌-◌, ◌<◌, ◌≤◌, ◌==◌, Bool, true, false, not, ◌&&◌, ◌||◌, List, [], ◌∷◌, ◌++◌, length, take, drop, get_or, Contains, refl, sym, ap, subst, ◌∙◌, arith, leb, length-append}
use Rattle.std.specs.Cmp.{both_ways}
use Rattle.std.specs.List.{list_any, list_all}
use Rattle.std.proofs.lemmas.Bool.{cases_Bool, cases_lt, or_cases, or_left, or_right, and_parts, and_from, leb-true, le-leb, false≢true, eq-eqb, ne_eqb}
use Rattle.std.proofs.lemmas.List.{get_or-take, get_or-drop, length-take, length-drop}
use Rattle.std.proofs.lemmas.List.Sums.{list_all-from_AllPass}
use Rattle.ranked_list.specs.declared.row.Row.{Row}
use Rattle.ranked_list.specs.declared.item.Item.{Item}
use Rattle.ranked_list.specs.Table.{IsTable}
use Rattle.topk_theory.specs.Order.{AreDistinct, in_order}
use Rattle.topk_theory.specs.declared.access.Access.{Access}
use Rattle.topk_theory.specs.Aggregate.{objects_of}
use Rattle.topk_theory.specs.Transcript.{Agrees, seen_objects, named_objects}
use Rattle.topk_theory.specs.Bounds.{bounded, high, threshold}
use Rattle.topk_theory.specs.NoRandom.{seen_items, first_seen, is_viable, is_quiet}
use Rattle.topk_theory.proofs.AgreementLists.{contains_nil, contains_here, contains_there, contains_cases, contains_splits, contains_apart, all_from_members, distinct_fits, take_within}
use Rattle.topk_theory.proofs.AgreementNames.{has, has_contains, has_not}
use Rattle.topk_theory.proofs.Agreement.{seen_in_table, seen_distinct, objects_of_distinct, objects_of_count}
use Rattle.topk_theory.proofs.NoRandomTop.{all_passes}
use Rattle.topk_theory.proofs.ThresholdLists.{any_from_member, any_from_none}
use Rattle.topk_theory.proofs.Unseen.{high_unnamed}
use Rattle.nra_core.specs.Quiet.{is_idle, is_quiet_seen}
use Rattle.nra_core.proofs.SeenItems.{of_seen, seen_there, distinct_in_order}
use Rattle.nra_core.proofs.Behind.{behind_whole, within_or_behind}

-- ---- objects of a table that are seen
some_fails : {X : Type 0} (p : X → Bool) (xs : List X) → ((x : X) × Contains xs x × (p x ≡ false)) ⊎ ((x : X) → Contains xs x → p x ≡ true)
some_fails p [] = inr (λ x c. absurd (contains_nil x c))
some_fails p (x ∷ xs) =
    elim (cases_Bool (p x)) [
      | inr f ↦ inl (x, contains_here x xs, f)
      | inl t ↦ elim (some_fails p xs) [
        | inl h ↦ inl (h.0, contains_there x xs h.0 h.1, h.2)
        | inr all ↦ inr (λ y c. elim (contains_cases x xs y c) [ inl e ↦ subst (λ z. p z ≡ true) e t | inr r ↦ all y r ])
      ]
    ]

-- where fewer are seen than there are, one isn't
unseen_one : (n : ℕ) (D : List (List Row)) (seen : List ℕ) → IsTable n D → 0 < length D → length seen < n
    → (object : ℕ) × Contains (objects_of D) object × (¬ Contains seen object)
unseen_one n D seen table some few =
    elim (some_fails (λ object. has object seen) (objects_of D)) [
      | inl h ↦ (h.0, h.1, has_not h.0 seen h.2)
      | inr all ↦ absurd (
          let fits = distinct_fits (objects_of D) seen (objects_of_distinct n D table) (λ x c. has_contains x seen (all x c)) in
          let count = objects_of_count n D table some in
          let h : ⊥ = omega arith in h)
    ]

-- where as many are seen, each is
all_seen : (m n : ℕ) (D : List (List Row)) (A : List Access) (object : ℕ) → Agrees m n D A → 0 < length D → n ≤ length (seen_objects A)
    → Contains (objects_of D) object → (¬ Contains (seen_objects A) object) → ⊥
all_seen m n D A object agrees some enough here unseen =
    let split = contains_splits (objects_of D) object here in
    let fits = distinct_fits (seen_objects A) (split.0 ++ split.1) (seen_distinct A) (λ x c.
    contains_apart split.0 object split.1 x (subst (λ os. Contains os x) split.2 (seen_in_table m n D A x agrees c)) (λ e. unseen (subst (λ o. Contains (seen_objects A) o) (sym e) c))) in
    let count = objects_of_count n D agrees.table some in
    let long : length (objects_of D) ≡ length (split.0 ++ object ∷ split.1) = ap length split.2 in
    let one = length-append split.0 (object ∷ split.1) in
    let other = length-append split.0 split.1 in
    omega arith

-- ---- the first k in order, and the others
apart_behind : (k : ℕ) (xs : List Item) (inside outside : Item) → AreDistinct xs → Contains (take k xs) inside → Contains (drop k xs) outside
    → inside.object ≢ outside.object
apart_behind k xs inside outside apart within behind = λ same.
    let i : ℕ = within.0 in
    let j : ℕ = behind.0 in
    let short : length (take k xs) ≡ min k (length xs) = length-take k xs in
    let rest : length (drop k xs) ≡ length xs - k = length-drop k xs in
    let in_first : i < length (take k xs) = within.1 in
    let in_rest : j < length (drop k xs) = behind.1 in
    let one : get_or xs i inside ≡ inside = sym (get_or-take k xs i inside (omega arith)) ∙ within.2 in
    let other : get_or xs (k + j) outside ≡ outside = sym (get_or-drop k xs j outside) ∙ behind.2 in
    let moved : get_or xs (k + j) inside ≡ outside = default_free xs (k + j) inside outside (omega arith) ∙ other in
    apart i (k + j) inside (omega arith) (omega arith) (ap (λ (x : Item). x.object) one ∙ same ∙ ap (λ (x : Item). x.object) (sym moved))
  where
    default_free : (ys : List Item) (p : ℕ) (d e : Item) → p < length ys → get_or ys p d ≡ get_or ys p e
    default_free [] p d e l = absurd (omega arith)
    default_free (y ∷ ys) zero d e l = refl
    default_free (y ∷ ys) (suc p) d e l = default_free ys p d e (omega arith)

-- an object is among the first k, or isn't viable
abbrev settled : (List ℕ → ℕ) → ℕ → ℕ → List Access → ℕ → Bool
settled V k m A object = list_any (λ (item : Item). item.object == object) (first_seen V k m A) || not (is_viable V k m A object)

-- ---- quiet on the table: so the transcript shows it
quiet_shown : (V : List ℕ → ℕ) (k n : ℕ) (D : List (List Row)) (A : List Access) → 0 < length D
    → ((o : ℕ) → Contains (named_objects A) o → Contains (seen_objects A) o) → Agrees (length D) n D A → is_quiet V k (length D) D A ≡ true
    → is_quiet_seen V k (length D) n A ≡ true
quiet_shown V k n D A some named agrees quiet =
    let m = length D in
    let seen = seen_objects A in
    let sorted = in_order (seen_items V m A) in
    let parts = and_parts (leb k (length seen)) (list_all (settled V k m A) (objects_of D)) quiet in
    let idle : (o : ℕ) → Contains (objects_of D) o → ((i : Item) → Contains (take k sorted) i → i.object ≢ o) → is_idle V k m A (high V m A o) ≡ true = λ o here outside.
    elim (or_cases (list_any (λ (i : Item). i.object == o) (first_seen V k m A)) (not (is_viable V k m A o)) (all_passes (settled V k m A) (objects_of D) o parts.1 here)) [
      | inl t ↦ absurd (false≢true (sym (any_from_none (λ (i : Item). i.object == o) (take k sorted) (λ i c. ne_eqb i.object o (outside i c))) ∙ t))
      | inr t ↦ t
    ] in
    let all : list_all (λ (item : Item). is_idle V k m A item.high) (drop k sorted) ≡ true =
    list_all-from_AllPass (λ (item : Item). is_idle V k m A item.high) (drop k sorted) (all_from_members (λ (item : Item). is_idle V k m A item.high ≡ true) (drop k sorted) (λ item c.
    let of = of_seen V m A item (behind_whole k sorted item c) in
    let high_is : high V m A item.object ≡ item.high = ap (λ (i : Item). i.high) (sym of.1) in
    subst (λ h. is_idle V k m A h ≡ true) high_is (idle item.object (seen_in_table m n D A item.object agrees of.0) (λ i within. apart_behind k sorted i item (distinct_in_order V m A) within c)))) in
    let unseen : (leb n (length seen) || is_idle V k m A (threshold V m A)) ≡ true =
    elim (cases_lt (length seen) n) [
      | inr enough ↦ or_left (leb n (length seen)) (is_idle V k m A (threshold V m A)) (le-leb n (length seen) enough)
      | inl few ↦ (
          let one = unseen_one n D seen agrees.table some few in
          or_right (leb n (length seen)) (is_idle V k m A (threshold V m A))
          (subst (λ h. is_idle V k m A h ≡ true) (high_unnamed V m A one.0 (λ c. one.2 (named one.0 c)))
          (idle one.0 one.1 (λ i within same. one.2 (subst (λ o. Contains seen o) same (of_seen V m A i (take_within k sorted i within)).0)))))
    ] in
    and_from (leb k (length seen)) _ parts.0 (and_from (leb n (length seen) || is_idle V k m A (threshold V m A)) (list_all (λ (item : Item). is_idle V k m A item.high) (drop k sorted)) unseen all)

-- ---- and the other way round
quiet_from : (V : List ℕ → ℕ) (k n : ℕ) (D : List (List Row)) (A : List Access) → 0 < length D
    → ((o : ℕ) → Contains (named_objects A) o → Contains (seen_objects A) o) → Agrees (length D) n D A → is_quiet_seen V k (length D) n A ≡ true
    → is_quiet V k (length D) D A ≡ true
quiet_from V k n D A some named agrees shown =
    let m = length D in
    let seen = seen_objects A in
    let sorted = in_order (seen_items V m A) in
    let among = λ (o : ℕ). list_any (λ (i : Item). i.object == o) (first_seen V k m A) in
    let rest = list_all (λ (item : Item). is_idle V k m A item.high) (drop k sorted) in
    let unseen = leb n (length seen) || is_idle V k m A (threshold V m A) in
    let parts = and_parts (leb k (length seen)) (unseen && rest) shown in
    let tests = and_parts unseen rest parts.1 in
    let each : (o : ℕ) → Contains (objects_of D) o → settled V k m A o ≡ true = λ o here.
    elim (cases_Bool (among o)) [
      | inl t ↦ or_left (among o) (not (is_viable V k m A o)) t
      | inr f ↦ or_right (among o) (not (is_viable V k m A o)) (elim (cases_Bool (has o seen)) [
        | inl is_seen ↦ (
            let item : Item = bounded V m A o in
            elim (within_or_behind k sorted item (seen_there V m A o (has_contains o seen is_seen))) [
              | inl within ↦ absurd (false≢true (sym f ∙ any_from_member (λ (i : Item). i.object == o) (take k sorted) item within (eq-eqb o o refl)))
              | inr behind ↦ all_passes (λ (i : Item). is_idle V k m A i.high) (drop k sorted) item tests.1 behind
            ])
        | inr not_seen ↦ (
            let out = has_not o seen not_seen in
            elim (or_cases (leb n (length seen)) (is_idle V k m A (threshold V m A)) tests.0) [
              | inl enough ↦ absurd (all_seen m n D A o agrees some (leb-true n (length seen) enough) here out)
              | inr idle ↦ subst (λ h. is_idle V k m A h ≡ true) (sym (high_unnamed V m A o (λ c. out (named o c)))) idle
            ])
      ])
    ] in
    and_from (leb k (length seen)) (list_all (settled V k m A) (objects_of D)) parts.0
    (list_all-from_AllPass (settled V k m A) (objects_of D) (all_from_members (λ o. settled V k m A o ≡ true) (objects_of D) each))

pub quiet_same : (V : List ℕ → ℕ) (k n : ℕ) (D : List (List Row)) (A : List Access) → 0 < length D
    → ((o : ℕ) → Contains (named_objects A) o → Contains (seen_objects A) o) → Agrees (length D) n D A
    → is_quiet V k (length D) D A ≡ is_quiet_seen V k (length D) n A
quiet_same V k n D A some named agrees = both_ways (is_quiet V k (length D) D A) (is_quiet_seen V k (length D) n A) (quiet_shown V k n D A some named agrees) (quiet_from V k n D A some named agrees)
