-- The k-th low in order is the k-th largest low.
use Rattle.std.proofs.Common.{◌≡◌, ℕ, zero, suc, ◌+◌, ◌-◌, ◌<◌, ◌≤◌, Bool, true, false, cond, List, [], ◌∷◌, length, Option, Some, None, nat_lt, nat_le, refl, sym, ap, ◌∙◌, subst, inl, inr, arith}
use Rattle.std.specs.declared.cmp.Ordering.TheVariants.{Less}
use Rattle.std.specs.List.{AllByRecursion, count_by, slice_get}
use Rattle.std.specs.Option.{MatchOption, option_map}
use Rattle.std.proofs.lemmas.Bool.{lt-ltb, le-ltb, le-leb, leb-true, cases_order}
use Rattle.std.proofs.lemmas.List.Sorted.{IsPermutation-map, sum_by-IsPermutation}
use Rattle.std.proofs.lemmas.List.Sums.{sum_by-cons}
use Rattle.std.proofs.lemmas.Map.Keys.{sorted_head, sorted_tail}
use Rattle.std.proofs.lemmas.Option.{none-some, same_Some}
use Rattle.ranked_list.specs.declared.item.Item.{Item}
use Rattle.ranked_list.proofs.Members.{past_end}
use Rattle.topk_theory.specs.Order.{item_cmp, AreDistinct, in_order, kth_low, lows, IsKthLargest}
use Rattle.topk_theory.proofs.OrderLaws.{items_total, before_from_less}
use Rattle.topk_theory.proofs.SortedKeys.{less_at}
use Rattle.topk_theory.proofs.InOrder.{Ascend, in_order-ascends, in_order-permutes, length-in_order}

-- a later item has no greater low
low_falls : (a b : Item) → item_cmp a b ≡ Less → b.low ≤ a.low
low_falls a b less = elim (before_from_less a b less) [ inl low ↦ omega arith | inr tie ↦ omega arith ]

none_greater : (first : Item) (rest : List Item) → AllByRecursion (λ other. item_cmp first other ≡ Less) rest
    → count_by (λ n. nat_lt first.low n) (lows rest) ≡ 0
none_greater first [] all = refl
none_greater first (next ∷ rest) all =
    sum_by-cons (λ n. cond (nat_lt first.low n) 1 0) next.low (lows rest)
    ∙ ap (λ b. cond b 1 0 + count_by (λ n. nat_lt first.low n) (lows rest)) (le-ltb first.low next.low (low_falls first next all.0))
    ∙ ap (λ (n : ℕ). 0 + n) (none_greater first rest all.1)

at_most_one : (b : Bool) → cond b 1 0 ≤ 1
at_most_one true = omega arith
at_most_one false = omega arith

-- no more lows are greater than the one at a place than stand before it
few_greater : (items : List Item) (i : ℕ) (item : Item) → Ascend items → slice_get items i ≡ Some item → count_by (λ n. nat_lt item.low n) (lows items) ≤ i
few_greater [] i item up at = absurd (none-some item at)
few_greater (first ∷ rest) zero item up at =
    subst (λ (it : Item). count_by (λ n. nat_lt it.low n) (lows (first ∷ rest)) ≤ 0) (same_Some first item at)
    (let same : cond {A = ℕ} (nat_lt first.low first.low) 1 0 ≡ 0 = ap (λ b. cond b 1 0) (le-ltb first.low first.low (omega arith)) in
    omega (arith, sum_by-cons (λ n. cond (nat_lt first.low n) 1 0) first.low (lows rest), same, none_greater first rest (sorted_head item_cmp first rest up)))
few_greater (first ∷ rest) (suc i) item up at =
    omega (arith, sum_by-cons (λ n. cond (nat_lt item.low n) 1 0) first.low (lows rest), at_most_one (nat_lt item.low first.low), few_greater rest i item (sorted_tail item_cmp first rest up) at)

-- it and those before it are no less
enough_no_less : (items : List Item) (i : ℕ) (item : Item) → Ascend items → slice_get items i ≡ Some item
    → suc i ≤ count_by (λ n. nat_le item.low n) (lows items)
enough_no_less [] i item up at = absurd (none-some item at)
enough_no_less (first ∷ rest) zero item up at =
    subst (λ (it : Item). 1 ≤ count_by (λ n. nat_le it.low n) (lows (first ∷ rest))) (same_Some first item at)
    (let same : cond {A = ℕ} (nat_le first.low first.low) 1 0 ≡ 1 = ap (λ b. cond b 1 0) (le-leb first.low first.low (omega arith)) in
    omega (arith, sum_by-cons (λ n. cond (nat_le first.low n) 1 0) first.low (lows rest), same))
enough_no_less (first ∷ rest) (suc i) item up at =
    let less = less_at items_total first rest i item (sorted_head item_cmp first rest up) at in
    let counts : cond {A = ℕ} (nat_le item.low first.low) 1 0 ≡ 1 = ap (λ b. cond b 1 0) (le-leb item.low first.low (low_falls first item less)) in
    omega (arith, sum_by-cons (λ n. cond (nat_le item.low n) 1 0) first.low (lows rest), counts, enough_no_less rest i item (sorted_tail item_cmp first rest up) at)

-- how many of the lows pass is the same in order
counted_in_order : (p : ℕ → Bool) (items : List Item) → count_by p (lows (in_order items)) ≡ count_by p (lows items)
counted_in_order p items =
    sum_by-IsPermutation (λ n. cond (p n) 1 0) (lows items) (lows (in_order items))
    (IsPermutation-map (λ (item : Item). item.low) items (in_order items) (in_order-permutes items))

by_count : (k : ℕ) (items : List Item) (item : Option Item) → 1 ≤ k → AreDistinct items → slice_get (in_order items) (k - 1) ≡ item
    → MatchOption (option_map (λ (it : Item). it.low) item) (length items < k) (IsKthLargest k (lows items))
by_count k items None positive apart at =
    let few = past_end (in_order items) (k - 1) at in
    omega (arith, length-in_order items)
by_count k items (Some item) positive apart at =
    let up = in_order-ascends items apart in
    record {
      greater = omega (arith, few_greater (in_order items) (k - 1) item up at, counted_in_order (λ n. nat_lt item.low n) items);
      no_less = omega (arith, enough_no_less (in_order items) (k - 1) item up at, counted_in_order (λ n. nat_le item.low n) items);
    }

-- the k-th low is the k-th largest, and there is none below k items
pub kth_low-counts : (k : ℕ) (items : List Item) → 1 ≤ k → AreDistinct items → MatchOption (kth_low k items) (length items < k) (IsKthLargest k (lows items))
kth_low-counts k items positive apart = by_count k items (slice_get (in_order items) (k - 1)) positive apart refl

-- what is no less than w is greater than a lesser v
count_mono : (v w : ℕ) (numbers : List ℕ) → v < w → count_by (λ n. nat_le w n) numbers ≤ count_by (λ n. nat_lt v n) numbers
count_mono v w [] less = omega arith
count_mono v w (n ∷ numbers) less =
    let here : cond (nat_le w n) 1 0 ≤ cond (nat_lt v n) 1 0 =
    elim (nat_le w n) as (λ b. nat_le w n ≡ b → cond b 1 0 ≤ cond (nat_lt v n) 1 0) [
      | true ↦ λ e. let upto = leb-true w n e in subst (λ b. 1 ≤ cond b 1 0) (sym (lt-ltb v n (omega arith))) (omega arith)
      | false ↦ λ _. omega arith
    ] refl in
    omega (arith, sum_by-cons (λ m. cond (nat_le w m) 1 0) n numbers, sum_by-cons (λ m. cond (nat_lt v m) 1 0) n numbers, count_mono v w numbers less, here)

-- numbers have one k-th largest at most
pub IsKthLargest-only : (k : ℕ) (numbers : List ℕ) (v w : ℕ) → IsKthLargest k numbers v → IsKthLargest k numbers w → v ≡ w
IsKthLargest-only k numbers v w is also =
    elim (cases_order v w) [
      | inl same ↦ same
      | inr apart ↦
          elim apart [
            | inl less ↦ absurd (omega (arith, count_mono v w numbers less, is.greater, also.no_less))
            | inr more ↦ absurd (omega (arith, count_mono w v numbers more, is.no_less, also.greater))
          ]
    ]
