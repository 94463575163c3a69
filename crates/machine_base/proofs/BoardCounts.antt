-- A board that has certain objects, each with its aggregate: how many pass a test, and which are the first.
use Rattle.std.proofs.Common.{◌≡◌, ◌≢◌, ℕ, ◌<◌, ◌≤◌, inl, inr, Bool, true, false, List, [], ◌∷◌, length, map, filter, AllPairs, Contains, sym, ap, subst, ◌∙◌, arith, nat_le, nat_lt, leb-true, count_by, min}
use Rattle.std.proofs.lemmas.Bool.{cases_Bool, cases_lt, true≢false, le-leb, lt-leb, lt-ltb}
use Rattle.std.proofs.lemmas.List.Sums.{length-filter, count_by-le-length}
use Rattle.std.proofs.lemmas.List.Kept.{AllPairs-filter}
use Rattle.ranked_list.specs.declared.row.Row.{Row}
use Rattle.ranked_list.specs.declared.item.Item.{Item}
use Rattle.topk_theory.specs.Order.{AreDistinct, IsKthLargest, IsFirstK, lows}
use Rattle.topk_theory.specs.declared.access.Access.{Access}
use Rattle.topk_theory.specs.Aggregate.{aggregate}
use Rattle.topk_theory.specs.Transcript.{seen_objects}
use Rattle.topk_theory.specs.Threshold.{scored, item_objects}
use Rattle.topk_theory.proofs.AgreementLists.{contains_nil, contains_map, contains_map_from, all_from_members, distinct_fits, member_of_all}
use Rattle.topk_theory.proofs.ThresholdLists.{contains_filter, contains_from_filter, count_map, length-map, filter_here, filter_gone}
use Rattle.topk_theory.proofs.ThresholdTop.{objects_from_distinct, scored_distinct, scored_member}
use Rattle.machine_base.specs.Board.{OnBoard}

-- the board has exactly these objects, each with its aggregate
pub record IsBoardOf (V : List ℕ → ℕ) (D : List (List Row)) (objects : List ℕ) (items : List Item) : Type 0 where
  pub distinct : AreDistinct items
  pub held : (object : ℕ) → Contains objects object → Contains items (scored V D object)
  pub only : (item : Item) → Contains items item → Contains objects item.object × (scored V D item.object ≡ item)

-- where none waits, these are the seen objects
pub board_of : (V : List ℕ → ℕ) (D : List (List Row)) (A : List Access) (objects : List ℕ) (items : List Item) → OnBoard V D A [] items
    → ((object : ℕ) → Contains objects object → Contains (seen_objects A) object) → ((object : ℕ) → Contains (seen_objects A) object → Contains objects object)
    → IsBoardOf V D objects items
board_of V D A objects items on to from = record {
  distinct = on.distinct;
  held = λ object h. on.held object (to object h) (λ w. contains_nil object w);
  only = λ item h. let k = on.only item h in (from item.object k.0, k.2);
}

-- the items whose low passes a test are as many as the objects whose aggregate does
pub board_counts : (V : List ℕ → ℕ) (D : List (List Row)) (objects : List ℕ) (passes : ℕ → Bool) (items : List Item)
    → AllPairs (λ (a : ℕ) (b : ℕ). a ≢ b) objects → IsBoardOf V D objects items
    → count_by passes (lows items) ≡ count_by (λ object. passes (aggregate V D object)) objects
board_counts V D objects passes items apart on =
    let good : ℕ → Bool = λ object. passes (aggregate V D object) in
    let high : Item → Bool = λ item. passes item.low in
    let os : List ℕ = filter good objects in
    let kept : List Item = filter high items in
    let low_is : (item : Item) → Contains items item → aggregate V D item.object ≡ item.low = λ item h. ap (λ (i : Item). i.low) (on.only item h).1 in
    let up : length os ≤ length (item_objects kept) =
    distinct_fits os (item_objects kept) (AllPairs-filter (λ (a : ℕ) (b : ℕ). a ≢ b) good objects apart) (λ o h.
    let from = contains_from_filter good objects o h in
    contains_map (λ (i : Item). i.object) kept (scored V D o) (contains_filter high items (scored V D o) (on.held o from.0) from.1)) in
    let down : length (item_objects kept) ≤ length os =
    distinct_fits (item_objects kept) os (objects_from_distinct kept (AllPairs-filter (λ (a : Item) (b : Item). a.object ≢ b.object) high items on.distinct)) (λ o h.
    let from = contains_map_from (λ (i : Item). i.object) kept o h in
    let is = contains_from_filter high items from.0 from.1 in
    subst (λ z. Contains os z) from.2 (contains_filter good objects from.0.object (on.only from.0 is.0).0 (ap passes (low_is from.0 is.0) ∙ is.1))) in
    let long : length (item_objects kept) ≡ length kept = length-map (λ (i : Item). i.object) kept in
    let counted : length kept ≡ count_by high items = length-filter high items in
    let mapped : count_by passes (lows items) ≡ count_by high items = count_map passes (λ (i : Item). i.low) items in
    let chosen : length os ≡ count_by good objects = length-filter good objects in
    omega arith

-- the first k of the board are the first k of its objects
pub board_first : (V : List ℕ → ℕ) (k : ℕ) (D : List (List Row)) (objects : List ℕ) (items first : List Item) → AllPairs (λ (a : ℕ) (b : ℕ). a ≢ b) objects
    → IsBoardOf V D objects items → IsFirstK k (map (scored V D) objects) first → IsFirstK k items first
board_first V k D objects items first apart h is =
    let all : List Item = map (scored V D) objects in
    let to : (x : Item) → Contains all x → Contains items x = λ x c. let k = scored_member V D objects x c in subst (λ (z : Item). Contains items z) k.1 (h.held x.object k.0) in
    let from : (x : Item) → Contains items x → Contains all x = λ x c. let k = h.only x c in subst (λ (z : Item). Contains all z) k.1 (contains_map (scored V D) objects x.object k.0) in
    let up : length (item_objects all) ≤ length (item_objects items) =
    distinct_fits (item_objects all) (item_objects items) (objects_from_distinct all (scored_distinct V D objects apart)) (λ o c.
    let f = contains_map_from (λ (i : Item). i.object) all o c in subst (λ z. Contains (item_objects items) z) f.2 (contains_map (λ (i : Item). i.object) items f.0 (to f.0 f.1))) in
    let down : length (item_objects items) ≤ length (item_objects all) =
    distinct_fits (item_objects items) (item_objects all) (objects_from_distinct items h.distinct) (λ o c.
    let f = contains_map_from (λ (i : Item). i.object) items o c in subst (λ z. Contains (item_objects all) z) f.2 (contains_map (λ (i : Item). i.object) all f.0 (from f.0 f.1))) in
    let one : length (item_objects all) ≡ length all = length-map (λ (i : Item). i.object) all in
    let two : length (item_objects items) ≡ length items = length-map (λ (i : Item). i.object) items in
    let same : length all ≡ length items = omega arith in
    record {
      ordered = is.ordered;
      size = is.size ∙ ap (min k) same;
      held = all_from_members (Contains items) first (λ x c. to x (member_of_all (Contains all) first x is.held c));
      none_ahead = λ inside outside c o n. is.none_ahead inside outside c (from outside o) n;
    }

-- a count by a test that more pass
pub count_more : (p q : ℕ → Bool) (xs : List ℕ) → ((x : ℕ) → p x ≡ true → q x ≡ true) → length (filter p xs) ≤ length (filter q xs)
count_more p q [] h = omega arith
count_more p q (x ∷ xs) h =
    let rest : length (filter p xs) ≤ length (filter q xs) = count_more p q xs h in
    elim (cases_Bool (p x)) [
      | inl t ↦ omega (arith, ap length (filter_here p x xs t), ap length (filter_here q x xs (h x t)))
      | inr f ↦ elim (cases_Bool (q x)) [
        | inl t ↦ omega (arith, ap length (filter_gone p x xs f), ap length (filter_here q x xs t))
        | inr g ↦ omega (arith, ap length (filter_gone p x xs f), ap length (filter_gone q x xs g))
      ]
    ]

-- at least k lows pass a test that all greater ones pass too, exactly where the k-th does
pub kth_passes : (k : ℕ) (passes : ℕ → Bool) (items : List Item) (kth : ℕ)
    → ((one other : ℕ) → one ≤ other → passes one ≡ true → passes other ≡ true) → IsKthLargest k (lows items) kth
    → nat_le k (count_by passes (lows items)) ≡ passes kth
kth_passes k passes items kth upward is =
    let passing : length (filter passes (lows items)) ≡ count_by passes (lows items) = length-filter passes (lows items) in
    elim (cases_Bool (passes kth)) [
      | inl t ↦
          let more : length (filter (nat_le kth) (lows items)) ≤ length (filter passes (lows items)) = count_more (nat_le kth) passes (lows items) (λ x l. upward kth x (leb-true kth x l) t) in
          let no_less : length (filter (nat_le kth) (lows items)) ≡ count_by (nat_le kth) (lows items) = length-filter (nat_le kth) (lows items) in
          le-leb k (count_by passes (lows items)) (omega (arith, is.no_less)) ∙ sym t
      | inr f ↦
          let above : (x : ℕ) → passes x ≡ true → nat_lt kth x ≡ true = λ x p. elim (cases_lt kth x) [ inl l ↦ lt-ltb kth x l | inr ge ↦ absurd (true≢false (sym (upward x kth ge p) ∙ f)) ] in
          let fewer : length (filter passes (lows items)) ≤ length (filter (nat_lt kth) (lows items)) = count_more passes (nat_lt kth) (lows items) above in
          let greater : length (filter (nat_lt kth) (lows items)) ≡ count_by (nat_lt kth) (lows items) = length-filter (nat_lt kth) (lows items) in
          lt-leb k (count_by passes (lows items)) (omega (arith, is.greater)) ∙ sym f
    ]

-- and never where there are fewer than k
pub few_pass : (k : ℕ) (passes : ℕ → Bool) (items : List Item) → length items < k → nat_le k (count_by passes (lows items)) ≡ false
few_pass k passes items few =
    let counted : count_by passes (lows items) ≤ length (lows items) = count_by-le-length passes (lows items) in
    let long : length (lows items) ≡ length items = length-map (λ (i : Item). i.low) items in
    lt-leb k (count_by passes (lows items)) (omega arith)
