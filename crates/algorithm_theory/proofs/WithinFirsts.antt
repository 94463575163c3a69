-- The first k of the objects down to a depth: k objects of the table, seen there, that no other one seen there beats.
use Rattle.std.proofs.Common.{◌≡◌, ◌≢◌, inl, inr, ℕ, ◌<◌, ◌≤◌, Bool, true, min, List, ◌∷◌, length, map, filter, count_by, All, AllPairs, Contains, slice_index_or, sym, ap, subst, ◌∙◌, arith}
use Rattle.std.proofs.lemmas.Bool.{cases_Bool, cases_lt, true≢false}
use Rattle.std.proofs.lemmas.List.Sums.{length-filter}
use Rattle.std.proofs.lemmas.List.Kept.{AllPairs-cons, AllPairs-filter}
use Rattle.ranked_list.specs.declared.row.Row.{Row}
use Rattle.ranked_list.specs.declared.item.Item.{Item}
use Rattle.ranked_list.specs.Table.{IsTable}
use Rattle.topk_theory.specs.Order.{IsBefore, IsFirstK}
use Rattle.topk_theory.specs.Aggregate.{objects_of, aggregate}
use Rattle.topk_theory.specs.Transcript.{seen_objects}
use Rattle.topk_theory.specs.Threshold.{stands, objects_to, scored, ta_run_to, item_objects}
use Rattle.topk_theory.proofs.AgreementLists.{contains_cases, contains_at, contains_map, contains_map_from, all_from_members, member_of_all, distinct_fits}
use Rattle.topk_theory.proofs.AgreementNames.{has, has_contains, has_not}
use Rattle.topk_theory.proofs.Agreement.{objects_of_distinct}
use Rattle.topk_theory.proofs.FirstK.{first_k-is}
use Rattle.topk_theory.proofs.OrderLaws.{IsBefore-irreflexive}
use Rattle.topk_theory.proofs.ThresholdLists.{contains_from_filter, length-map}
use Rattle.topk_theory.proofs.ThresholdRun.{run_sees}
use Rattle.topk_theory.proofs.ThresholdTop.{objects_from_distinct, scored_distinct, scored_member}
use Rattle.algorithm_theory.specs.Nearby.{first_at}
use Rattle.algorithm_theory.proofs.WithinDepths.{IsDepth}

-- Y is k distinct objects that stand down to the depth, and no other one that stands there beats one of them
pub record AreFirst (V : List ℕ → ℕ) (k : ℕ) (D : List (List Row)) (depth : ℕ) (Y : List ℕ) : Type 0 where
  pub sized : length Y ≡ k
  pub distinct : AllPairs (λ (y : ℕ) (z : ℕ). y ≢ z) Y
  pub standing : (object : ℕ) → Contains Y object → Contains (objects_to D depth) object
  pub unbeaten : (inside outside : ℕ) → Contains Y inside → Contains (objects_to D depth) outside → ¬ Contains Y outside
      → aggregate V D outside ≤ aggregate V D inside

standing_distinct : (n : ℕ) (D : List (List Row)) (depth : ℕ) → IsTable n D → AllPairs (λ (y : ℕ) (z : ℕ). y ≢ z) (objects_to D depth)
standing_distinct n D depth t = AllPairs-filter (λ (y : ℕ) (z : ℕ). y ≢ z) (stands D depth) (objects_of D) (objects_of_distinct n D t)

pub first_at_is : (V : List ℕ → ℕ) (k n : ℕ) (D : List (List Row)) (depth : ℕ) → IsTable n D
    → IsFirstK k (map (scored V D) (objects_to D depth)) (first_at V k D depth)
first_at_is V k n D depth t = first_k-is k (map (scored V D) (objects_to D depth)) (scored_distinct V D (objects_to D depth) (standing_distinct n D depth t))

-- an item of the answer is an object that stands, with its aggregate
first_holds : (V : List ℕ → ℕ) (k n : ℕ) (D : List (List Row)) (depth : ℕ) (item : Item) → IsTable n D → Contains (first_at V k D depth) item
    → Contains (objects_to D depth) item.object × (scored V D item.object ≡ item)
first_holds V k n D depth item t c =
    scored_member V D (objects_to D depth) item (member_of_all (Contains (map (scored V D) (objects_to D depth))) (first_at V k D depth) item (first_at_is V k n D depth t).held c)

pub first_standing : (V : List ℕ → ℕ) (k n : ℕ) (D : List (List Row)) (depth object : ℕ) → IsTable n D → Contains (item_objects (first_at V k D depth)) object
    → Contains (objects_to D depth) object
first_standing V k n D depth object t c =
    let from = contains_map_from (λ (item : Item). item.object) (first_at V k D depth) object c in
    subst (λ z. Contains (objects_to D depth) z) from.2 (first_holds V k n D depth from.0 t from.1).0

pub are_first : (V : List ℕ → ℕ) (k n : ℕ) (D : List (List Row)) (depth : ℕ) → IsTable n D → IsDepth k n D depth
    → AreFirst V k D depth (item_objects (first_at V k D depth))
are_first V k n D depth t deep =
    let os : List ℕ = objects_to D depth in
    let first : List Item = first_at V k D depth in
    let is = first_at_is V k n D depth t in
    let long : length (map (scored V D) os) ≡ length os = length-map (scored V D) os in
    let size : length first ≡ min k (length (map (scored V D) os)) = is.size in
    let enough = deep.enough in
    let holds : (item : Item) → Contains first item → Contains os item.object × (scored V D item.object ≡ item) = λ item c. first_holds V k n D depth item t c in
    record {
      sized = length-map (λ (i : Item). i.object) first ∙ omega arith;
      distinct = objects_from_distinct first (λ i j d l m.
          let a : Item = slice_index_or first i d in
          let b : Item = slice_index_or first j d in
          let here : i < length first = omega arith in
          λ e. let same : a ≡ b = sym (holds a (contains_at first i d here)).1 ∙ ap (scored V D) e ∙ (holds b (contains_at first j d m)).1 in
          IsBefore-irreflexive b (subst (λ (z : Item). IsBefore z b) same (is.ordered i j d l m)));
      standing = λ object c. first_standing V k n D depth object t c;
      unbeaten = λ inside outside c o out.
          let from = contains_map_from (λ (i : Item). i.object) first inside c in
          let low_is : from.0.low ≡ aggregate V D inside = sym (ap (λ (i : Item). i.low) (holds from.0 from.1).1) ∙ ap (aggregate V D) from.2 in
          elim (cases_lt (aggregate V D inside) (aggregate V D outside)) [
            | inr le ↦ le
            | inl beats ↦ absurd (is.none_ahead from.0 (scored V D outside) from.1 (contains_map (scored V D) os outside o)
                (λ h. out (contains_map (λ (i : Item). i.object) first (scored V D outside) h)) (inl (omega arith)))
          ];
    }

-- where at least k of the objects that stand pass a test that a greater aggregate passes too, each of the first k passes
pub first_pass : (V : List ℕ → ℕ) (k : ℕ) (D : List (List Row)) (depth : ℕ) (Y : List ℕ) (passes : ℕ → Bool) (inside : ℕ) → AreFirst V k D depth Y
    → AllPairs (λ (y : ℕ) (z : ℕ). y ≢ z) (objects_to D depth)
    → ((one other : ℕ) → one ≤ other → passes one ≡ true → passes other ≡ true) → k ≤ count_by (λ object. passes (aggregate V D object)) (objects_to D depth)
    → Contains Y inside → passes (aggregate V D inside) ≡ true
first_pass V k D depth Y passes inside is apart upward enough c =
    let good : ℕ → Bool = λ object. passes (aggregate V D object) in
    let kept : List ℕ = filter good (objects_to D depth) in
    elim (cases_Bool (good inside)) [
      | inl t ↦ t
      | inr f ↦ absurd (
          let other : (o : ℕ) → Contains kept o → inside ≢ o = λ o held e.
          true≢false (sym (contains_from_filter good (objects_to D depth) o held).1 ∙ ap good (sym e) ∙ f) in
          let within : (o : ℕ) → Contains kept o → Contains Y o = λ o held.
          let from = contains_from_filter good (objects_to D depth) o held in
          elim (cases_Bool (has o Y)) [
            | inl t ↦ has_contains o Y t
            | inr n ↦ absurd (true≢false (sym (upward (aggregate V D o) (aggregate V D inside) (is.unbeaten inside o c from.0 (has_not o Y n)) from.1) ∙ f))
          ] in
          let fits : length (inside ∷ kept) ≤ length Y = distinct_fits (inside ∷ kept) Y
          (AllPairs-cons (λ (y : ℕ) (z : ℕ). y ≢ z) inside kept (all_from_members (λ o. inside ≢ o) kept other) (AllPairs-filter (λ (y : ℕ) (z : ℕ). y ≢ z) good (objects_to D depth) apart))
          (λ o held. elim (contains_cases inside kept o held) [ inl e ↦ subst (λ z. Contains Y z) e c | inr r ↦ within o r ]) in
          let counted : length kept ≡ count_by good (objects_to D depth) = length-filter good (objects_to D depth) in
          let size : length Y ≡ k = is.sized in
          omega arith)
    ]

pub first_passes : (V : List ℕ → ℕ) (k n : ℕ) (D : List (List Row)) (depth : ℕ) (passes : ℕ → Bool) (inside : ℕ) → IsTable n D → IsDepth k n D depth
    → ((one other : ℕ) → one ≤ other → passes one ≡ true → passes other ≡ true) → k ≤ count_by (λ object. passes (aggregate V D object)) (objects_to D depth)
    → Contains (item_objects (first_at V k D depth)) inside → passes (aggregate V D inside) ≡ true
first_passes V k n D depth passes inside t deep upward enough c =
    first_pass V k D depth (item_objects (first_at V k D depth)) passes inside (are_first V k n D depth t deep) (standing_distinct n D depth t) upward enough c

-- the answer was seen
pub sees_first : (V : List ℕ → ℕ) (k n : ℕ) (D : List (List Row)) (depth : ℕ) → IsTable n D
    → All (Contains (seen_objects (ta_run_to D depth))) (item_objects (first_at V k D depth))
sees_first V k n D depth t =
    all_from_members (Contains (seen_objects (ta_run_to D depth))) (item_objects (first_at V k D depth)) (λ o c.
    let stood = contains_from_filter (stands D depth) (objects_of D) o (first_standing V k n D depth o t c) in
    run_sees n D depth o t stood.1 stood.0)
