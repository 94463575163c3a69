-- The board follows the transcript: after a row, after a grade, and once an object has all its grades.
use Rattle.std.proofs.Common.{◌≡◌, ◌≢◌, ℕ, ◌<◌, ◌≤◌, ◌⊎◌, inl, inr, Bool, true, false, List, [], ◌∷◌, ◌++◌, length, AllPairs, Contains, refl, sym, ap, subst, ◌∙◌, arith}
use Rattle.std.proofs.lemmas.Bool.{cases_Bool, true≢false}
use Rattle.std.proofs.lemmas.List.Elements.{Contains-append_left, Contains-append_cases, Contains-push}
use Rattle.std.proofs.lemmas.List.Kept.{AllPairs-cons}
use Rattle.ranked_list.specs.declared.row.Row.{Row}
use Rattle.ranked_list.specs.declared.item.Item.{Item}
use Rattle.topk_theory.specs.Order.{AreDistinct}
use Rattle.ranked_list.specs.Items.{put_item}
use Rattle.topk_theory.specs.declared.access.Access.{Access}
use Rattle.topk_theory.specs.declared.access.Access.TheVariants.{Sorted, Random}
use Rattle.topk_theory.specs.Transcript.{seen_objects}
use Rattle.topk_theory.specs.Threshold.{scored, item_objects}
use Rattle.topk_theory.proofs.AgreementLists.{contains_nil, contains_here, contains_there, contains_cases, contains_map_from, all_from_members, distinct_fits, distinct_head}
use Rattle.topk_theory.proofs.AgreementNames.{has, has_contains, has_not}
use Rattle.topk_theory.proofs.ThresholdLists.{length-map}
use Rattle.topk_theory.proofs.ThresholdTop.{objects_from_distinct}
use Rattle.topk_theory.proofs.ThresholdRun.{seen_from_access, access_from_seen, seen_more}
use Rattle.machine_base.specs.Board.{with_new, OnBoard}
use Rattle.machine_base.proofs.BoardPuts.{put_has, put_keeps, put_from, put_distinct}

-- after one more sorted access
seen_by_sorted : (A : List Access) (list object grade x : ℕ) → Contains (seen_objects (A ++ Sorted list object grade ∷ [])) x
    → Contains (seen_objects A) x ⊎ (object ≡ x)
seen_by_sorted A list object grade x h =
    let from = access_from_seen (A ++ Sorted list object grade ∷ []) x h in
    elim (Contains-append_cases A (Sorted list object grade ∷ []) (Sorted from.0 x from.1) from.2) [
      | inl before ↦ inl (seen_from_access A from.0 x from.1 before)
      | inr last ↦ elim (contains_cases (Sorted list object grade) [] (Sorted from.0 x from.1) last) [
        | inl e ↦ inr (same_object list object grade from.0 x from.1 e)
        | inr r ↦ absurd (contains_nil (Sorted from.0 x from.1) r)
      ]
    ]
  where
    same_object : (l o g l' o' g' : ℕ) → Sorted l o g ≡ Sorted l' o' g' → o ≡ o'
    same_object l o g l' o' g' e = cc

pub seen_by_random : (A : List Access) (list object grade x : ℕ) → Contains (seen_objects (A ++ Random list object grade ∷ [])) x → Contains (seen_objects A) x
seen_by_random A list object grade x h =
    let from = access_from_seen (A ++ Random list object grade ∷ []) x h in
    elim (Contains-append_cases A (Random list object grade ∷ []) (Sorted from.0 x from.1) from.2) [
      | inl before ↦ seen_from_access A from.0 x from.1 before
      | inr last ↦ elim (contains_cases (Random list object grade) [] (Sorted from.0 x from.1) last) [
        | inl e ↦ absurd (not_both list object grade from.0 x from.1 e)
        | inr r ↦ absurd (contains_nil (Sorted from.0 x from.1) r)
      ]
    ]
  where
    not_both : (l o g l' o' g' : ℕ) → Random l o g ≡ Sorted l' o' g' → ⊥
    not_both l o g l' o' g' e = cc

pub waits_more : (waiting : List ℕ) (object : ℕ) (is_new : Bool) (x : ℕ) → Contains waiting x → Contains (with_new waiting object is_new) x
waits_more waiting object true x h = Contains-append_left waiting (object ∷ []) x h
waits_more waiting object false x h = h

waits_new : (waiting : List ℕ) (object : ℕ) (is_new : Bool) → is_new ≡ true → Contains (with_new waiting object is_new) object
waits_new waiting object true e = Contains-push waiting object
waits_new waiting object false e = absurd (true≢false (sym e))

pub waits_from : (waiting : List ℕ) (object : ℕ) (is_new : Bool) (x : ℕ) → Contains (with_new waiting object is_new) x
    → Contains waiting x ⊎ ((is_new ≡ true) × (object ≡ x))
waits_from waiting object true x h =
    elim (Contains-append_cases waiting (object ∷ []) x h) [
      | inl k ↦ inl k
      | inr r ↦ elim (contains_cases object [] x r) [ inl e ↦ inr (refl, e) | inr n ↦ absurd (contains_nil x n) ]
    ]
waits_from waiting object false x h = inl h

pub board_after_row : (V : List ℕ → ℕ) (D : List (List Row)) (A : List Access) (waiting : List ℕ) (items : List Item) (list object grade : ℕ) (is_new : Bool)
    → OnBoard V D A waiting items → (is_new ≡ true → ¬ Contains (seen_objects A) object) → (is_new ≡ false → Contains (seen_objects A) object)
    → OnBoard V D (A ++ Sorted list object grade ∷ []) (with_new waiting object is_new) items
board_after_row V D A waiting items list object grade is_new on unseen seen = record {
  distinct = on.distinct;
  held = λ x h n.
      elim (seen_by_sorted A list object grade x h) [
        | inl before ↦ on.held x before (λ w. n (waits_more waiting object is_new x w))
        | inr e ↦ elim (cases_Bool is_new) [
          | inl fresh ↦ absurd (n (subst (λ z. Contains (with_new waiting object is_new) z) e (waits_new waiting object is_new fresh)))
          | inr old ↦ on.held x (subst (λ z. Contains (seen_objects A) z) e (seen old)) (λ w. n (waits_more waiting object is_new x w))
        ]
      ];
  only = λ item h.
      let k = on.only item h in (
        seen_more A (Sorted list object grade ∷ []) item.object k.0,
        (λ w. elim (waits_from waiting object is_new item.object w) [
          | inl before ↦ k.1 before
          | inr fresh ↦ unseen fresh.0 (subst (λ z. Contains (seen_objects A) z) (sym fresh.1) k.0)
        ]),
        k.2,
      );
}

pub board_after_grade : (V : List ℕ → ℕ) (D : List (List Row)) (A : List Access) (waiting : List ℕ) (items : List Item) (list object grade : ℕ)
    → OnBoard V D A waiting items → OnBoard V D (A ++ Random list object grade ∷ []) waiting items
board_after_grade V D A waiting items list object grade on = record {
  distinct = on.distinct;
  held = λ x h n. on.held x (seen_by_random A list object grade x h) n;
  only = λ item h. let k = on.only item h in (seen_more A (Random list object grade ∷ []) item.object k.0, k.1, k.2);
}

-- an object whose grades are all there is put on the board
pub board_after_put : (V : List ℕ → ℕ) (D : List (List Row)) (A : List Access) (object : ℕ) (waiting : List ℕ) (items : List Item)
    → OnBoard V D A (object ∷ waiting) items → AllPairs (λ (one : ℕ) (other : ℕ). one ≢ other) (object ∷ waiting) → Contains (seen_objects A) object
    → OnBoard V D A waiting (put_item (scored V D object) items)
board_after_put V D A object waiting items on apart seen =
    let absent : (x : Item) → Contains items x → object ≢ x.object = λ x h. λ e. (on.only x h).1 (subst (λ z. Contains (object ∷ waiting) z) e (contains_here object waiting)) in
    record {
      distinct = put_distinct (scored V D object) items on.distinct absent;
      held = λ x h n. elim (cases_Bool (has x (object ∷ []))) [
        | inl t ↦ elim (contains_cases object [] x (has_contains x (object ∷ []) t)) [
          | inl e ↦ subst (λ z. Contains (put_item (scored V D object) items) (scored V D z)) e (put_has (scored V D object) items)
          | inr r ↦ absurd (contains_nil x r)
        ]
        | inr f ↦
            let other : object ≢ x = λ e. has_not x (object ∷ []) f (subst (λ z. Contains (object ∷ []) z) e (contains_here object [])) in
            put_keeps (scored V D object) items (scored V D x)
            (on.held x h (λ w. elim (contains_cases object waiting x w) [ inl e ↦ other e | inr r ↦ n r ])) other
      ];
      only = λ item h. elim (put_from (scored V D object) items item h) [
        | inl e ↦
            let same : object ≡ item.object = ap (λ (i : Item). i.object) e in (
              subst (λ z. Contains (seen_objects A) z) same seen,
              (λ w. distinct_head object waiting item.object apart w same),
              ap (scored V D) (sym same) ∙ e,
            )
        | inr r ↦ let k = on.only item r in (k.0, (λ w. k.1 (contains_there object waiting item.object w)), k.2)
      ];
    }

-- the objects of a board that were seen are no more than were seen
pub place_filled : (seen : List ℕ) (items : List Item) → AreDistinct items → ((item : Item) → Contains items item → Contains seen item.object)
    → length items ≤ length seen
place_filled seen items distinct of_seen =
    let fits : length (item_objects items) ≤ length seen =
    distinct_fits (item_objects items) seen (objects_from_distinct items distinct)
    (λ o c. let k = contains_map_from (λ (i : Item). i.object) items o c in subst (λ z. Contains seen z) k.2 (of_seen k.0 k.1)) in
    let long : length (item_objects items) ≡ length items = length-map (λ (i : Item). i.object) items in
    omega arith

-- and fewer, where one that was seen isn't there
pub place_left : (seen : List ℕ) (items : List Item) (object : ℕ) → AreDistinct items
    → ((item : Item) → Contains items item → Contains seen item.object × (item.object ≢ object)) → Contains seen object → length items < length seen
place_left seen items object distinct others is_seen =
    let apart : AllPairs (λ (a : ℕ) (b : ℕ). a ≢ b) (object ∷ item_objects items) =
    AllPairs-cons (λ (a : ℕ) (b : ℕ). a ≢ b) object (item_objects items)
    (all_from_members (λ (o : ℕ). object ≢ o) (item_objects items) (λ o c e. let k = contains_map_from (λ (i : Item). i.object) items o c in (others k.0 k.1).1 (k.2 ∙ sym e)))
    (objects_from_distinct items distinct) in
    let fits : length (object ∷ item_objects items) ≤ length seen =
    distinct_fits (object ∷ item_objects items) seen apart
    (λ o c. elim (contains_cases object (item_objects items) o c) [
      | inl e ↦ subst (λ z. Contains seen z) e is_seen
      | inr there ↦ let k = contains_map_from (λ (i : Item). i.object) items o there in subst (λ z. Contains seen z) k.2 (others k.0 k.1).0
    ]) in
    let long : length (item_objects items) ≡ length items = length-map (λ (i : Item). i.object) items in
    omega arith
