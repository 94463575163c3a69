-- The answer of the threshold algorithm is a top k of its table.
use Rattle.std.proofs.Common.{◌≡◌, ◌≢◌, ℕ, zero, suc, ◌<◌, ◌≤◌, inl, inr, Bool, true, List, [], ◌∷◌, length, map, AllPairs, Contains, slice_index_or, refl, sym, ap, subst, ◌∙◌, arith, filter, count_by, nat_le, min}
use Rattle.std.proofs.lemmas.Bool.{cases_Bool, cases_lt, leb-true}
use Rattle.std.proofs.lemmas.List.Sums.{length-filter, count_by-le-length}
use Rattle.std.proofs.lemmas.List.Kept.{AllPairs-cons, AllPairs-filter}
use Rattle.ranked_list.specs.declared.row.Row.{Row}
use Rattle.ranked_list.specs.declared.item.Item.{Item}
use Rattle.ranked_list.specs.Table.{IsTable}
use Rattle.topk_theory.specs.Order.{IsBefore, IsFirstK, AreDistinct}
use Rattle.monotone_fn.specs.Value.{IsMonotone}
use Rattle.topk_theory.specs.Aggregate.{objects_of, aggregate, IsTop}
use Rattle.topk_theory.specs.Threshold.{stands, objects_to, threshold_at, ta_stop, ta_depth, scored, ta_answer, item_objects}
use Rattle.topk_theory.proofs.AgreementLists.{contains_cases, contains_at, contains_map, contains_map_from, all_from_members, member_of_all, distinct_fits}
use Rattle.topk_theory.proofs.AgreementNames.{has, has_contains, has_not}
use Rattle.topk_theory.proofs.Agreement.{objects_of_distinct}
use Rattle.topk_theory.proofs.ThresholdLists.{contains_filter, contains_from_filter, length-map}
use Rattle.topk_theory.proofs.ThresholdDepth.{unseen_at_most, ta_depth_is_least}
use Rattle.topk_theory.proofs.OrderLaws.{IsBefore-irreflexive}
use Rattle.topk_theory.proofs.FirstK.{first_k-is}

object_at : (items : List Item) (k : ℕ) (d : Item) (e : ℕ) → k < length items → slice_index_or (item_objects items) k e ≡ (slice_index_or items k d).object
object_at [] k d e l = absurd (omega arith)
object_at (item ∷ items) zero d e l = refl
object_at (item ∷ items) (suc k) d e l = object_at items k d e (omega arith)

no_item : Item
no_item = record { object = 0; low = 0; high = 0 }

distinct_from_objects : (items : List Item) → AllPairs (λ (a : ℕ) (b : ℕ). a ≢ b) (item_objects items) → AreDistinct items
distinct_from_objects items apart i j d l m =
    let long : length (item_objects items) ≡ length items = length-map (λ (item : Item). item.object) items in
    λ e. apart i j 0 l (omega arith) (object_at items i d 0 (omega arith) ∙ e ∙ sym (object_at items j d 0 m))

pub objects_from_distinct : (items : List Item) → AreDistinct items → AllPairs (λ (a : ℕ) (b : ℕ). a ≢ b) (item_objects items)
objects_from_distinct items apart i j d l m =
    let long : length (item_objects items) ≡ length items = length-map (λ (item : Item). item.object) items in
    λ e. apart i j no_item l (omega arith) (sym (object_at items i no_item d (omega arith)) ∙ e ∙ object_at items j no_item d (omega arith))

-- scored items
scored_objects : (V : List ℕ → ℕ) (D : List (List Row)) (os : List ℕ) → item_objects (map (scored V D) os) ≡ os
scored_objects V D [] = refl
scored_objects V D (o ∷ os) = ap (λ ys. o ∷ ys) (scored_objects V D os)

pub scored_distinct : (V : List ℕ → ℕ) (D : List (List Row)) (os : List ℕ) → AllPairs (λ (a : ℕ) (b : ℕ). a ≢ b) os → AreDistinct (map (scored V D) os)
scored_distinct V D os apart = distinct_from_objects (map (scored V D) os) (subst (λ ys. AllPairs (λ (a : ℕ) (b : ℕ). a ≢ b) ys) (sym (scored_objects V D os)) apart)

pub scored_member : (V : List ℕ → ℕ) (D : List (List Row)) (os : List ℕ) (item : Item) → Contains (map (scored V D) os) item
    → Contains os item.object × (scored V D item.object ≡ item)
scored_member V D os item h =
    let from = contains_map_from (scored V D) os item h in
    let same : from.0 ≡ item.object = ap (λ (i : Item). i.object) from.2 in
    (subst (λ o. Contains os o) same from.1, ap (scored V D) (sym same) ∙ from.2)

-- where at least k items have a low of at least a bound, each of the first k has one
first_at_least : (V : List ℕ → ℕ) (k bound : ℕ) (D : List (List Row)) (os : List ℕ) (first : List Item) (inside : Item)
    → AllPairs (λ (a : ℕ) (b : ℕ). a ≢ b) os → IsFirstK k (map (scored V D) os) first → k ≤ count_by (λ object. nat_le bound (aggregate V D object)) os
    → Contains first inside → bound ≤ inside.low
first_at_least V k bound D os first inside apart is enough h =
    elim (cases_lt inside.low bound) [
      | inr reaches ↦ reaches
      | inl short ↦
          let good : ℕ → Bool = λ object. nat_le bound (aggregate V D object) in
          let kept = filter good os in
          let scored_inside = scored_member V D os inside (member_of_all (Contains (map (scored V D) os)) first inside is.held h) in
          let low_is : inside.low ≡ aggregate V D inside.object = sym (ap (λ (i : Item). i.low) scored_inside.1) in
          let outside_kept : (o : ℕ) → Contains kept o → inside.object ≢ o = λ o held.
          let reaches : bound ≤ aggregate V D o = leb-true bound (aggregate V D o) (contains_from_filter good os o held).1 in
          λ e. let same : aggregate V D inside.object ≡ aggregate V D o = ap (aggregate V D) e in omega arith in
          let ahead : (o : ℕ) → Contains kept o → Contains (item_objects first) o = λ o held.
          let from = contains_from_filter good os o held in
          let reaches : bound ≤ aggregate V D o = leb-true bound (aggregate V D o) from.1 in
          elim (cases_Bool (has o (item_objects first))) [
            | inl t ↦ has_contains o (item_objects first) t
            | inr f ↦ absurd (is.none_ahead inside (scored V D o) h (contains_map (scored V D) os o from.0)
                (λ c. has_not o (item_objects first) f (contains_map (λ (i : Item). i.object) first (scored V D o) c))
                (inl (omega arith)))
          ] in
          let fits : length (inside.object ∷ kept) ≤ length (item_objects first) =
          distinct_fits (inside.object ∷ kept) (item_objects first)
          (AllPairs-cons (λ (a : ℕ) (b : ℕ). a ≢ b) inside.object kept (all_from_members (λ o. inside.object ≢ o) kept outside_kept) (AllPairs-filter (λ (a : ℕ) (b : ℕ). a ≢ b) good os apart))
          (λ o held. elim (contains_cases inside.object kept o held) [
            | inl e ↦ subst (λ z. Contains (item_objects first) z) e (contains_map (λ (i : Item). i.object) first inside h)
            | inr r ↦ ahead o r
          ]) in
          let counted : length kept ≡ count_by good os = length-filter good os in
          let long : length (item_objects first) ≡ length first = length-map (λ (i : Item). i.object) first in
          let size : length first ≡ min k (length (map (scored V D) os)) = is.size in
          absurd (omega arith)
    ]

-- the first k of what is seen at a depth at which the algorithm stops are a top k
pub first_is_top : (V : List ℕ → ℕ) (k n : ℕ) (D : List (List Row)) (depth : ℕ) (first : List Item) → IsMonotone V → IsTable n D → 1 ≤ depth
    → ta_stop V k D depth ≡ true → IsFirstK k (map (scored V D) (objects_to D depth)) first → IsTop V k D (item_objects first)
first_is_top V k n D depth first monotone t positive stops is =
    let os = objects_to D depth in
    let items = map (scored V D) os in
    let bound : ℕ = threshold_at V D depth in
    let good : ℕ → Bool = λ object. nat_le bound (aggregate V D object) in
    let apart : AllPairs (λ (a : ℕ) (b : ℕ). a ≢ b) os = AllPairs-filter (λ (a : ℕ) (b : ℕ). a ≢ b) (stands D depth) (objects_of D) (objects_of_distinct n D t) in
    let enough : k ≤ count_by good os = leb-true k (count_by good os) stops in
    let within : count_by good os ≤ length os = count_by-le-length good os in
    let long : length items ≡ length os = length-map (scored V D) os in
    let size : length first ≡ min k (length items) = is.size in
    let holds : (item : Item) → Contains first item → Contains os item.object × (scored V D item.object ≡ item) = λ item h. scored_member V D os item (member_of_all (Contains items) first item is.held h) in
    record {
      sized = length-map (λ (i : Item). i.object) first ∙ omega arith;
      distinct = objects_from_distinct first (λ i j d l m.
          let a : Item = slice_index_or first i d in
          let b : Item = slice_index_or first j d in
          let here : i < length first = omega arith in
          λ e. let same : a ≡ b = sym (holds a (contains_at first i d here)).1 ∙ ap (scored V D) e ∙ (holds b (contains_at first j d m)).1 in
          IsBefore-irreflexive b (subst (λ (z : Item). IsBefore z b) same (is.ordered i j d l m)));
      members = all_from_members (Contains (objects_of D)) (item_objects first) (λ o h.
          let from = contains_map_from (λ (i : Item). i.object) first o h in
          subst (λ z. Contains (objects_of D) z) from.2 (contains_from_filter (stands D depth) (objects_of D) from.0.object (holds from.0 from.1).0).0);
      unbeaten = λ inside outside h o not_in.
          let from = contains_map_from (λ (i : Item). i.object) first inside h in
          let reaches : bound ≤ from.0.low = first_at_least V k bound D os first from.0 apart is enough from.1 in
          let low_is : from.0.low ≡ aggregate V D inside = sym (ap (λ (i : Item). i.low) (holds from.0 from.1).1) ∙ ap (aggregate V D) from.2 in
          elim (cases_Bool (stands D depth outside)) [
            | inl seen ↦ elim (cases_lt (aggregate V D inside) (aggregate V D outside)) [
              | inr le ↦ le
              | inl beats ↦ absurd (is.none_ahead from.0 (scored V D outside) from.1 (contains_map (scored V D) os outside (contains_filter (stands D depth) (objects_of D) outside o seen))
                  (λ c. not_in (contains_map (λ (i : Item). i.object) first (scored V D outside) c)) (inl (omega arith)))
            ]
            | inr unseen ↦ let under : aggregate V D outside ≤ bound = unseen_at_most V n D outside depth monotone t o positive unseen in omega arith
          ];
    }

-- the answer of the algorithm
pub answer_is_first : (V : List ℕ → ℕ) (k n : ℕ) (D : List (List Row)) → IsTable n D
    → IsFirstK k (map (scored V D) (objects_to D (ta_depth V k D))) (ta_answer V k D)
answer_is_first V k n D t =
    let os = objects_to D (ta_depth V k D) in
    first_k-is k (map (scored V D) os) (scored_distinct V D os (AllPairs-filter (λ (a : ℕ) (b : ℕ). a ≢ b) (stands D (ta_depth V k D)) (objects_of D) (objects_of_distinct n D t)))

pub answer_is_top : (V : List ℕ → ℕ) (k n : ℕ) (D : List (List Row)) → IsMonotone V → IsTable n D → 0 < length D → 1 ≤ k → k ≤ n
    → IsTop V k D (item_objects (ta_answer V k D))
answer_is_top V k n D monotone t l positive fits =
    let least = ta_depth_is_least V k n D monotone t l positive fits in
    first_is_top V k n D (ta_depth V k D) (ta_answer V k D) monotone t least.from_one least.stops (answer_is_first V k n D t)
