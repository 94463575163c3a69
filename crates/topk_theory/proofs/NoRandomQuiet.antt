-- Where every list was given whole everything is known, so an algorithm that tests for quiet stops there.
use Rattle.std.proofs.Common.{◌≡◌, ◌≤◌, ◌<◌, ◌==◌, ◌-◌, ◌||◌, inl, inr, ℕ, true, false, not, cond, List, [], ◌∷◌, length, Option, Some, None, unwrap_or, refl, sym, ap, subst, ◌∙◌, arith, get_or, leb}
use Rattle.std.specs.List.{filter_map, cons_option, Contains, list_any, list_all, slice_get}
use Rattle.std.specs.Option.{option_map}
use Rattle.std.proofs.lemmas.Bool.{cases_Bool, cases_lt, eq-eqb, le-leb, le-ltb, ltb-false, and_from, or_right, true≢false}
use Rattle.std.proofs.lemmas.List.{length-take-le, get_or-take, length-map}
use Rattle.std.proofs.lemmas.List.Sums.{list_all-from_AllPass}
use Rattle.std.proofs.lemmas.Option.{slice_get-get_or}
use Rattle.ranked_list.specs.declared.row.Row.{Row}
use Rattle.ranked_list.specs.declared.item.Item.{Item}
use Rattle.ranked_list.specs.Table.{IsTable, objects}
use Rattle.topk_theory.specs.Order.{IsBefore, IsFirstK, in_order, first_k, kth_low}
use Rattle.topk_theory.specs.declared.access.Access.{Access}
use Rattle.topk_theory.specs.declared.access.Access.TheVariants.{Sorted, Random}
use Rattle.monotone_fn.specs.Value.{IsMonotone}
use Rattle.topk_theory.specs.Aggregate.{objects_of}
use Rattle.topk_theory.specs.Transcript.{sorted_rows, sorted_object, seen_objects, list_at, bottom_of}
use Rattle.topk_theory.specs.Bounds.{known_grade, bounded, low, high}
use Rattle.topk_theory.specs.NoRandom.{seen_items, first_seen, is_viable, is_quiet, exceeds}
use Rattle.topk_theory.proofs.AgreementLists.{contains_here, contains_there, contains_cases, contains_nil, contains_at, contains_map, all_from_members, distinct_fits}
use Rattle.topk_theory.proofs.AgreementNames.{each_once_complete}
use Rattle.topk_theory.proofs.AgreementRows.{grade_among_none, objects_in_each}
use Rattle.topk_theory.proofs.Agreement.{objects_of_distinct, objects_of_count}
use Rattle.topk_theory.proofs.BoundsLaws.{zip_numbers, sorted_none}

-- what a list gave under sorted access is seen
pub sorted_is_seen : (list object : ℕ) (A : List Access) → Contains (objects (sorted_rows list A)) object → Contains (filter_map sorted_object A) object
sorted_is_seen list object [] c = absurd (contains_nil object c)
sorted_is_seen list object (Sorted other o g ∷ A) c =
    elim (other == list) as (λ b. Contains (objects (cons_option (cond b (Some (record { object = o; grade = g })) None) (sorted_rows list A))) object → Contains (o ∷ filter_map sorted_object A) object) [
      | true ↦ λ h. elim (contains_cases o (objects (sorted_rows list A)) object h) [
        | inl e ↦ subst (λ x. Contains (o ∷ filter_map sorted_object A) x) e (contains_here o (filter_map sorted_object A))
        | inr t ↦ contains_there o (filter_map sorted_object A) object (sorted_is_seen list object A t)
      ]
      | false ↦ λ h. contains_there o (filter_map sorted_object A) object (sorted_is_seen list object A h)
    ] c
sorted_is_seen list object (Random other o g ∷ A) c = sorted_is_seen list object A c

-- a transcript that gives every list whole
abbrev pub GivesAll : List (List Row) → List Access → Type 0
GivesAll D A = (list : ℕ) → list < length D → sorted_rows list A ≡ list_at D list

full_known : (n : ℕ) (D : List (List Row)) (A : List Access) (list object : ℕ) → IsTable n D → GivesAll D A → list < length D → Contains (objects_of D) object
    → (known_grade A object list ≡ None) → ⊥
full_known n D A list object table full lt here none =
    grade_among_none (sorted_rows list A) object (sorted_none list object A none) (subst (λ rows. Contains (objects rows) object) (sym (full list lt)) (objects_in_each n D list object table lt here))

-- every object of the table is seen there
pub full_seen : (n : ℕ) (D : List (List Row)) (A : List Access) (object : ℕ) → IsTable n D → GivesAll D A → 0 < length D → Contains (objects_of D) object
    → Contains (seen_objects A) object
full_seen n D A object table full some here =
    each_once_complete (filter_map sorted_object A) object (sorted_is_seen 0 object A (subst (λ rows. Contains (objects rows) object) (sym (full 0 some)) (objects_in_each n D 0 object table some here)))

full_count : (n : ℕ) (D : List (List Row)) (A : List Access) → IsTable n D → GivesAll D A → 0 < length D → n ≤ length (seen_objects A)
full_count n D A table full some =
    let all = distinct_fits (objects_of D) (seen_objects A) (objects_of_distinct n D table) (λ o c. full_seen n D A o table full some c) in
    let count = objects_of_count n D table some in
    omega arith

-- the bounds of each object meet there
same_where_known : (known : Option ℕ) (bottom : ℕ) → (known ≡ None → ⊥) → unwrap_or known bottom ≤ unwrap_or known 0
same_where_known None bottom some = absurd (some refl)
same_where_known (Some grade) bottom some = omega arith

full_bounds : (V : List ℕ → ℕ) (n : ℕ) (D : List (List Row)) (A : List Access) (object : ℕ) → IsMonotone V → IsTable n D → GivesAll D A
    → Contains (objects_of D) object → high V (length D) A object ≤ low V (length D) A object
full_bounds V n D A object monotone table full here =
    monotone _ _ (zip_numbers (λ list. unwrap_or (known_grade A object list) (bottom_of list A)) (λ list. unwrap_or (known_grade A object list) 0) (length D) (λ list lt. same_where_known (known_grade A object list) (bottom_of list A) (full_known n D A list object table full lt here)))

pub exceeds_less : (found : Option ℕ) (number less : ℕ) → less ≤ number → exceeds found number ≡ false → exceeds found less ≡ false
exceeds_less None number less le e = e
exceeds_less (Some bound) number less le e = let up = ltb-false bound number e in le-ltb bound less (omega arith)

item_has : (items : List Item) (item : Item) → Contains items item → list_any (λ (i : Item). i.object == item.object) items ≡ true
item_has [] item c = absurd (contains_nil item c)
item_has (other ∷ items) item c =
    elim (contains_cases other items item c) [
      | inl e ↦ ap (λ b. b || list_any (λ (i : Item). i.object == item.object) items) (eq-eqb other.object item.object (ap (λ (i : Item). i.object) e))
      | inr t ↦ or_right (other.object == item.object) (list_any (λ (i : Item). i.object == item.object) items) (item_has items item t)
    ]

-- an item that the k-th doesn't stand before has no greater a low
not_before : (outside inside : Item) → (IsBefore outside inside → ⊥) → outside.low ≤ inside.low
not_before outside inside h = elim (cases_lt inside.low outside.low) [ inl gt ↦ absurd (h (inl gt)) | inr le ↦ le ]

-- whoever is outside the first k of enough items has no greater a low than the k-th
outside_low : (k : ℕ) (items : List Item) (outside : Item) → 1 ≤ k → k ≤ length (in_order items) → IsFirstK k items (first_k k items) → Contains items outside
    → (Contains (first_k k items) outside → ⊥) → exceeds (kth_low k items) outside.low ≡ false
outside_low k items outside one enough first here out =
    let last : Item = get_or (in_order items) (k - 1) outside in
    let found : slice_get (in_order items) (k - 1) ≡ Some last = slice_get-get_or (in_order items) (k - 1) outside (omega arith) in
    let size : length (first_k k items) ≡ k = length-take-le k (in_order items) enough in
    let inside : Contains (first_k k items) last = subst (λ i. Contains (first_k k items) i) (get_or-take k (in_order items) (k - 1) outside (omega arith)) (contains_at (first_k k items) (k - 1) outside (omega arith)) in
    let le : outside.low ≤ last.low = not_before outside last (first.none_ahead last outside inside here out) in
    ap (λ o. exceeds (option_map (λ (item : Item). item.low) o) outside.low) found ∙ le-ltb last.low outside.low le

-- such a transcript is quiet
pub full_quiet : (V : List ℕ → ℕ) (k n : ℕ) (D : List (List Row)) (A : List Access) → IsMonotone V → IsTable n D → GivesAll D A → 0 < length D → 1 ≤ k → k ≤ n
    → length (in_order (seen_items V (length D) A)) ≡ length (seen_items V (length D) A) → IsFirstK k (seen_items V (length D) A) (first_seen V k (length D) A)
    → is_quiet V k (length D) D A ≡ true
full_quiet V k n D A monotone table full some one fits whole first =
    let m = length D in
    let count : n ≤ length (seen_objects A) = full_count n D A table full some in
    let made : length (seen_items V m A) ≡ length (seen_objects A) = length-map (seen_objects A) (bounded V m A) in
    let each : (object : ℕ) → Contains (objects_of D) object → (list_any (λ (item : Item). item.object == object) (first_seen V k m A) || not (is_viable V k m A object)) ≡ true = λ object here.
    elim (cases_Bool (list_any (λ (item : Item). item.object == object) (first_seen V k m A))) [
      | inl t ↦ ap (λ b. b || not (is_viable V k m A object)) t
      | inr f ↦ (
          let item : Item = bounded V m A object in
          let held : Contains (seen_items V m A) item = contains_map (bounded V m A) (seen_objects A) object (full_seen n D A object table full some here) in
          let out : Contains (first_seen V k m A) item → ⊥ = λ c. true≢false (sym (item_has (first_seen V k m A) item c) ∙ f) in
          let low_out : exceeds (kth_low k (seen_items V m A)) item.low ≡ false = outside_low k (seen_items V m A) item one (omega arith) first held out in
          let meet = full_bounds V n D A object monotone table full here in
          let high_out : is_viable V k m A object ≡ false = exceeds_less (kth_low k (seen_items V m A)) item.low item.high meet low_out in
          or_right (list_any (λ (item : Item). item.object == object) (first_seen V k m A)) (not (is_viable V k m A object)) (ap not high_out))
    ] in
    and_from (leb k (length (seen_objects A))) (list_all (λ o. list_any (λ (item : Item). item.object == o) (first_seen V k m A) || not (is_viable V k m A o)) (objects_of D)) (le-leb k (length (seen_objects A)) (omega arith)) (list_all-from_AllPass (λ o. list_any (λ (item : Item). item.object == o) (first_seen V k m A) || not (is_viable V k m A o)) (objects_of D) (all_from_members (λ o. (list_any (λ (item : Item). item.object == o) (first_seen V k m A) || not (is_viable V k m A o)) ≡ true) (objects_of D) each))
