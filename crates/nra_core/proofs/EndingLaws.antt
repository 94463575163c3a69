-- The order at the end: the first k of items are among those whose low is no less than the k-th.
use Rattle.std.proofs.Common.{◌≡◌, ◌≢◌, inl, inr, ℕ, zero, suc, ◌+◌, ◌-◌, ◌<◌, ◌≤◌, ◌==◌, Bool, List, [], ◌∷◌, ◌++◌, length, take, get_or, filter, Contains, Option, Some, nat_lt, nat_le, sym, ap, subst, ◌∙◌, arith}
use Rattle.std.specs.List.{count_by}
use Rattle.std.specs.Option.{MatchOption}
use Rattle.std.proofs.Math.Seq.{take-append-add}
use Rattle.std.proofs.lemmas.Bool.{cases_Bool, cases_lt, eq-eqb, eqb-true, lt-ltb, ltb-true, le-leb, leb-true, leb-false}
use Rattle.std.proofs.lemmas.List.Elements.{All-contains, Contains-append_left, Contains-append_right, Contains-append_cases}
use Rattle.std.proofs.lemmas.List.Kept.{AllPairs-filter}
use Rattle.std.proofs.lemmas.List.Sums.{length-filter}
use Rattle.ranked_list.specs.declared.item.Item.{Item}
use Rattle.topk_theory.specs.Order.{IsBefore, IsInOrder, AreDistinct, in_order, first_k, IsFirstK, kth_low, lows, IsKthLargest}
use Rattle.topk_theory.proofs.AgreementLists.{contains_here, contains_there, contains_at, all_from_members}
use Rattle.topk_theory.proofs.ThresholdLists.{contains_filter, contains_from_filter}
use Rattle.topk_theory.proofs.InOrder.{in_order-ordered, in_order-only, length-in_order}
use Rattle.topk_theory.proofs.FirstK.{first_k-is, first_k-only}
use Rattle.topk_theory.proofs.KthLow.{kth_low-counts}
use Rattle.nra_core.specs.Late.{at_least, above_low, at_low}
use Rattle.topk_theory.proofs.NoRandomTop.{before_low}
use Rattle.topk_theory.proofs.Counts.{count_map, count_upto}
use Rattle.nra_core.proofs.Behind.{in_order_first, in_order_rest}
use Rattle.nra_core.proofs.Stop.{in_order_from, in_order_to}

distinct_kept : (p : Item → Bool) (items : List Item) → AreDistinct items → AreDistinct (filter p items)
distinct_kept p items apart = AllPairs-filter (λ (a : Item) (b : Item). a.object ≢ b.object) p items apart

-- ---- k items have a low that is no less than the k-th
largest_of : (k : ℕ) (items : List Item) (bound : ℕ) (found : Option ℕ) → found ≡ Some bound
    → MatchOption found (length items < k) (IsKthLargest k (lows items)) → IsKthLargest k (lows items) bound
largest_of k items bound found e match = subst (λ o. MatchOption o (length items < k) (IsKthLargest k (lows items))) e match

kth_largest : (k : ℕ) (items : List Item) (bound : ℕ) → 1 ≤ k → AreDistinct items → kth_low k items ≡ Some bound → IsKthLargest k (lows items) bound
kth_largest k items bound one apart e = largest_of k items bound (kth_low k items) e (kth_low-counts k items one apart)

enough_kept : (k : ℕ) (items : List Item) (bound : ℕ) → 1 ≤ k → AreDistinct items → kth_low k items ≡ Some bound → k ≤ length (at_least bound items)
enough_kept k items bound one apart e =
    let is = kth_largest k items bound one apart e in
    let many : k ≤ count_by (λ (item : Item). nat_le bound item.low) items = subst (λ n. k ≤ n) (count_map (λ (item : Item). item.low) (λ n. nat_le bound n) items) is.no_less in
    let size = length-filter (λ (item : Item). nat_le bound item.low) items in
    omega arith

few_above : (k : ℕ) (items : List Item) (bound : ℕ) → 1 ≤ k → AreDistinct items → kth_low k items ≡ Some bound → length (above_low bound items) < k
few_above k items bound one apart e =
    let is = kth_largest k items bound one apart e in
    let few : count_by (λ (item : Item). nat_lt bound item.low) items < k = subst (λ n. n < k) (count_map (λ (item : Item). item.low) (λ n. nat_lt bound n) items) is.greater in
    let size = length-filter (λ (item : Item). nat_lt bound item.low) items in
    omega arith

-- ---- the first k are the first k of those
pub first_of_kept : (k : ℕ) (items : List Item) (bound : ℕ) → 1 ≤ k → AreDistinct items → kth_low k items ≡ Some bound
    → first_k k (at_least bound items) ≡ first_k k items
first_of_kept k items bound one apart e =
    let kept = at_least bound items in
    let p : Item → Bool = λ item. nat_le bound item.low in
    let is : IsFirstK k kept (first_k k kept) = first_k-is k kept (distinct_kept p items apart) in
    let many = enough_kept k items bound one apart e in
    let fewer : length kept ≤ length items = few_kept p items in
    let inside_kept : (item : Item) → Contains (first_k k kept) item → Contains kept item = λ item c. All-contains (Contains kept) (first_k k kept) item is.held c in
    first_k-only k items (first_k k kept) apart (record {
      ordered = is.ordered;
      size = (let s = is.size in omega arith);
      held = all_from_members (Contains items) (first_k k kept) (λ item c. (contains_from_filter p items item (inside_kept item c)).0);
      none_ahead = λ inside outside within there beyond before. elim (cases_Bool (nat_le bound outside.low)) [
        | inl t ↦ is.none_ahead inside outside within (contains_filter p items outside there t) beyond before
        | inr f ↦ (
            let low : bound ≤ inside.low = leb-true bound inside.low (contains_from_filter p items inside (inside_kept inside within)).1 in
            let less : outside.low < bound = leb-false bound outside.low f in
            let no_less = before_low outside inside before in
            omega arith)
      ];
    })
  where
    few_kept : (p : Item → Bool) (xs : List Item) → length (filter p xs) ≤ length xs
    few_kept p xs = let size = length-filter p xs in let upto = count_upto p xs in omega arith

-- ---- those above the bound come first, then those at it
IsInOrder-cons : (x : Item) (xs : List Item) → ((y : Item) → Contains xs y → IsBefore x y) → IsInOrder xs → IsInOrder (x ∷ xs)
IsInOrder-cons x xs first rest = ordered_at
  where
    ordered_at : IsInOrder (x ∷ xs)
    ordered_at zero zero d lt in_range = absurd (omega arith)
    ordered_at (suc i) zero d lt in_range = absurd (omega arith)
    ordered_at zero (suc j) d lt in_range = first (get_or xs j d) (contains_at xs j d (omega arith))
    ordered_at (suc i) (suc j) d lt in_range = rest i j d (omega arith) (omega arith)

IsInOrder-append : (xs ys : List Item) → IsInOrder xs → IsInOrder ys → ((x y : Item) → Contains xs x → Contains ys y → IsBefore x y) → IsInOrder (xs ++ ys)
IsInOrder-append [] ys left right across = right
IsInOrder-append (x ∷ xs) ys left right across =
    IsInOrder-cons x (xs ++ ys) (λ y c. elim (Contains-append_cases xs ys y c) [
      | inl l ↦ in_order_first x xs y left l
      | inr r ↦ across x y (contains_here x xs) r
    ]) (IsInOrder-append xs ys (in_order_rest x xs left) right (λ a b c d. across a b (contains_there x xs a c) d))

in_order_parts : (items : List Item) (bound : ℕ) → AreDistinct items
    → in_order (above_low bound items) ++ in_order (at_low bound items) ≡ in_order (at_least bound items)
in_order_parts items bound apart =
    let p_above : Item → Bool = λ item. nat_lt bound item.low in
    let p_at : Item → Bool = λ item. item.low == bound in
    let p : Item → Bool = λ item. nat_le bound item.low in
    let above = above_low bound items in
    let tied = at_low bound items in
    let of_above : (x : Item) → Contains (in_order above) x → Contains items x × (bound < x.low) = λ x c.
    let from = contains_from_filter p_above items x (in_order_from above x c) in
    (from.0, ltb-true bound x.low from.1) in
    let of_tied : (x : Item) → Contains (in_order tied) x → Contains items x × (x.low ≡ bound) = λ x c.
    let from = contains_from_filter p_at items x (in_order_from tied x c) in
    (from.0, eqb-true x.low bound from.1) in
    in_order-only (at_least bound items) (in_order above ++ in_order tied) (distinct_kept p items apart)
    (IsInOrder-append (in_order above) (in_order tied) (in_order-ordered above (distinct_kept p_above items apart)) (in_order-ordered tied (distinct_kept p_at items apart))
    (λ x y c d. inl (let a = (of_above x c).1 in let b = (of_tied y d).1 in omega arith)))
    (λ item. (
      λ c. elim (Contains-append_cases (in_order above) (in_order tied) item c) [
        | inl l ↦ (let a = of_above item l in contains_filter p items item a.0 (le-leb bound item.low (let less = a.1 in omega arith)))
        | inr r ↦ (let a = of_tied item r in contains_filter p items item a.0 (le-leb bound item.low (let same = a.1 in omega arith)))
      ],
      λ c. (
          let from = contains_from_filter p items item c in
          let no_less = leb-true bound item.low from.1 in
          elim (cases_lt bound item.low) [
            | inl less ↦ Contains-append_left (in_order above) (in_order tied) item (in_order_to above item (contains_filter p_above items item from.0 (lt-ltb bound item.low less)))
            | inr upto ↦ Contains-append_right (in_order above) (in_order tied) item (in_order_to tied item (contains_filter p_at items item from.0 (eq-eqb item.low bound (omega arith))))
          ]),
    ))

-- the first k: the items above the bound in order, and then of the items at it as many as are wanting, the first by high and number
pub first_in_parts : (k : ℕ) (items : List Item) (bound : ℕ) → 1 ≤ k → AreDistinct items → kth_low k items ≡ Some bound
    → first_k k items ≡ in_order (above_low bound items) ++ first_k (k - length (above_low bound items)) (at_low bound items)
first_in_parts k items bound one apart e =
    let above = above_low bound items in
    let few : length above < k = few_above k items bound one apart e in
    let size : length (in_order above) ≡ length above = length-in_order above in
    let count : length (in_order above) + (k - length above) ≡ k = omega arith in
    sym (first_of_kept k items bound one apart e)
    ∙ ap (take k) (sym (in_order_parts items bound apart))
    ∙ ap (λ n. take n (in_order above ++ in_order (at_low bound items))) (sym count)
    ∙ take-append-add (in_order above) (in_order (at_low bound items)) (k - length above)
