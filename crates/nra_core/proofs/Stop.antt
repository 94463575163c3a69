-- The stop by any k objects with the greatest lows: no order among ties is needed.
use Rattle.std.proofs.Common.{◌≡◌, inl, inr, ℕ, ◌+◌, ◌-◌, ◌<◌, ◌≤◌, ◌==◌, Bool, true, false, cond, not, ◌&&◌, ◌||◌, List, length, map, drop, get_or, Contains, Option, Some, None, nat_lt, nat_le, refl, sym, ap, subst, ◌∙◌, arith, leb}
use Rattle.std.specs.List.{count_by, slice_get, list_all}
use Rattle.std.specs.Option.{MatchOption, option_map}
use Rattle.std.proofs.lemmas.Bool.{cases_Bool, false≢true, or_left, or_right, or_cases, and_parts, and_from, eq-eqb, ne_eqb, le-ltb, ltb-true, ltb-false, leb-true, le-leb}
use Rattle.std.proofs.lemmas.List.{length-map, get_or-map}
use Rattle.std.proofs.lemmas.List.Sorted.{sum_by-IsPermutation}
use Rattle.std.proofs.lemmas.List.Sums.{list_all-from_AllPass}
use Rattle.ranked_list.specs.declared.item.Item.{Item}
use Rattle.topk_theory.specs.Order.{AreDistinct, in_order, kth_low, lows, IsKthLargest}
use Rattle.topk_theory.specs.declared.access.Access.{Access}
use Rattle.topk_theory.specs.Transcript.{seen_objects}
use Rattle.topk_theory.specs.Bounds.{low, high, threshold}
use Rattle.topk_theory.specs.NoRandom.{seen_items, exceeds}
use Rattle.topk_theory.proofs.AgreementLists.{contains_map, contains_map_from, all_from_members}
use Rattle.topk_theory.proofs.Agreement.{seen_distinct}
use Rattle.topk_theory.proofs.InOrder.{has_from_Contains, Contains-from_has, has-in_order, in_order-ordered, in_order-permutes}
use Rattle.topk_theory.proofs.KthLow.{kth_low-counts, IsKthLargest-only}
use Rattle.topk_theory.proofs.NoRandomTop.{all_passes}
use Rattle.nra_core.specs.Late.{with_bounds, AreApart, AreFirstByLow, IsLeastLow, is_tied, is_open, AreOthersWithin, MayStop}
use Rattle.nra_core.specs.Quiet.{is_idle, is_quiet_seen}
use Rattle.topk_theory.proofs.Counts.{count_le, count_less, count_map, count_sum}
use Rattle.nra_core.proofs.Behind.{is_above, highs_behind, none_below_from, few_above_from}

-- ---- items of different objects
pub apart_items : (low high : ℕ → ℕ) (seen : List ℕ) → AreApart seen → AreDistinct (map (with_bounds low high) seen)
apart_items low high seen apart = λ i j d lt in_range equal.
    let f = with_bounds low high in
    let size : length (map f seen) ≡ length seen = length-map seen f in
    let at_i : get_or (map f seen) i d ≡ f (get_or seen i 0) = get_or-map f seen i 0 d (omega arith) in
    let at_j : get_or (map f seen) j d ≡ f (get_or seen j 0) = get_or-map f seen j 0 d (omega arith) in
    apart i j 0 lt (omega arith) (sym (ap (λ (item : Item). item.object) at_i) ∙ equal ∙ ap (λ (item : Item). item.object) at_j)

pub in_order_from : (items : List Item) (item : Item) → Contains (in_order items) item → Contains items item
in_order_from items item c = Contains-from_has items item (sym (has-in_order items item) ∙ has_from_Contains (in_order items) item c)

pub in_order_to : (items : List Item) (item : Item) → Contains items item → Contains (in_order items) item
in_order_to items item c = Contains-from_has (in_order items) item (has-in_order items item ∙ has_from_Contains items item c)

-- how many pass is the same in order
pub count_in_order : (p : Item → Bool) (items : List Item) → count_by p (in_order items) ≡ count_by p items
count_in_order p items = sum_by-IsPermutation (λ item. cond (p item) 1 0) items (in_order items) (in_order-permutes items)

-- ---- the bound is the k-th low
top_is_full : (k : ℕ) (low : ℕ → ℕ) (seen : List ℕ) (is_top : ℕ → Bool) → k ≤ length seen → AreFirstByLow k low seen is_top → count_by is_top seen ≡ k
top_is_full k low seen is_top enough first = let s = first.sized in omega arith

-- who has a low above the bound is in the set
pub above_is_top : (k : ℕ) (low : ℕ → ℕ) (seen : List ℕ) (is_top : ℕ → Bool) (bound object : ℕ) → AreFirstByLow k low seen is_top
    → IsLeastLow low is_top bound → Contains seen object → nat_lt bound (low object) ≡ true → is_top object ≡ true
above_is_top k low seen is_top bound object first least c above =
    let less : bound < low object = ltb-true bound (low object) above in
    elim (cases_Bool (is_top object)) [
      | inl t ↦ t
      | inr f ↦ absurd (
          let le = first.greatest least.reached.0 object least.reached.1 c f in
          let e = least.reached.2 in
          let h : ⊥ = omega arith in h)
    ]

bound_is_largest : (k : ℕ) (low : ℕ → ℕ) (seen : List ℕ) (is_top : ℕ → Bool) (bound : ℕ) → k ≤ length seen → AreFirstByLow k low seen is_top
    → IsLeastLow low is_top bound → (count_by (λ o. nat_lt bound (low o)) seen < k) × (k ≤ count_by (λ o. nat_le bound (low o)) seen)
bound_is_largest k low seen is_top bound enough first least =
    let full = top_is_full k low seen is_top enough first in
    let low_is : low least.reached.0 ≡ bound = least.reached.2 in
    let less : count_by (λ o. nat_lt bound (low o)) seen < count_by is_top seen =
    count_less (λ o. nat_lt bound (low o)) is_top seen least.reached.0 (λ o c t. above_is_top k low seen is_top bound o first least c t)
    (first.held least.reached.0 least.reached.1) (le-ltb bound (low least.reached.0) (omega arith)) least.reached.1 in
    let upto : count_by is_top seen ≤ count_by (λ o. nat_le bound (low o)) seen =
    count_le is_top (λ o. nat_le bound (low o)) seen (λ o c t. le-leb bound (low o) (least.least o t)) in
    (omega arith, omega arith)

counted_lows : (low high : ℕ → ℕ) (seen : List ℕ) (p : ℕ → Bool) → count_by p (lows (map (with_bounds low high) seen)) ≡ count_by (λ o. p (low o)) seen
counted_lows low high seen p =
    count_map (λ (item : Item). item.low) p (map (with_bounds low high) seen) ∙ count_map (with_bounds low high) (λ (item : Item). p item.low) seen

found_bound : (k : ℕ) (items : List Item) (bound : ℕ) (found : Option ℕ) → k ≤ length items → IsKthLargest k (lows items) bound
    → MatchOption found (length items < k) (IsKthLargest k (lows items)) → found ≡ Some bound
found_bound k items bound None enough is few = absurd (let h : ⊥ = omega arith in h)
found_bound k items bound (Some v) enough is also = ap (λ w. Some w) (IsKthLargest-only k (lows items) v bound also is)

pub kth_low_is : (k : ℕ) (low high : ℕ → ℕ) (seen : List ℕ) (is_top : ℕ → Bool) (bound : ℕ) → 1 ≤ k → AreApart seen → k ≤ length seen
    → AreFirstByLow k low seen is_top → IsLeastLow low is_top bound → kth_low k (map (with_bounds low high) seen) ≡ Some bound
kth_low_is k low high seen is_top bound one apart enough first least =
    let items = map (with_bounds low high) seen in
    let size : length items ≡ length seen = length-map seen (with_bounds low high) in
    let is = bound_is_largest k low seen is_top bound enough first least in
    let few : count_by (λ o. nat_lt bound (low o)) seen < k = is.0 in
    let many : k ≤ count_by (λ o. nat_le bound (low o)) seen = is.1 in
    let few_lows : count_by (λ n. nat_lt bound n) (lows items) < k = subst (λ n. n < k) (sym (counted_lows low high seen (λ n. nat_lt bound n))) few in
    let many_lows : k ≤ count_by (λ n. nat_le bound n) (lows items) = subst (λ n. k ≤ n) (sym (counted_lows low high seen (λ n. nat_le bound n))) many in
    found_bound k items bound (kth_low k items) (omega arith) (record { greater = few_lows; no_less = many_lows }) (kth_low-counts k items one (apart_items low high seen apart))

-- ---- who stands above the bound, counted
split_above : (a b c : Bool) → (a ≡ true → b ≡ false) → cond {A = ℕ} (a || (b && c)) 1 0 ≡ cond a 1 0 + cond (b && c) 1 0
split_above true true c h = absurd (false≢true (sym (h refl)))
split_above true false c h = refl
split_above false true true h = refl
split_above false true false h = refl
split_above false false c h = refl

split_top : (t l e : Bool) → (l ≡ true → t ≡ true) → (l ≡ true → e ≡ false) → (t ≡ true → l ≡ false → e ≡ true)
    → cond {A = ℕ} t 1 0 ≡ cond l 1 0 + cond (t && e) 1 0
split_top true true true h g k = absurd (false≢true (sym (g refl)))
split_top true true false h g k = refl
split_top true false true h g k = refl
split_top true false false h g k = absurd (false≢true (k refl refl))
split_top false true e h g k = absurd (false≢true (h refl))
split_top false false e h g k = refl

not_tied : (low : ℕ → ℕ) (bound object : ℕ) → nat_lt bound (low object) ≡ true → is_tied low bound object ≡ false
not_tied low bound object t = let less = ltb-true bound (low object) t in ne_eqb (low object) bound (λ e. let h : ⊥ = omega arith in h)

counted_above : (low high : ℕ → ℕ) (seen : List ℕ) (bound : ℕ)
    → count_by (is_above bound) (in_order (map (with_bounds low high) seen)) ≡ count_by (λ o. nat_lt bound (low o)) seen + count_by (is_open low high bound) seen
counted_above low high seen bound =
    count_in_order (is_above bound) (map (with_bounds low high) seen)
    ∙ count_map (with_bounds low high) (is_above bound) seen
    ∙ count_sum (λ o. is_above bound (with_bounds low high o)) (λ o. nat_lt bound (low o)) (is_open low high bound) seen
    (λ o c. split_above (nat_lt bound (low o)) (low o == bound) (nat_lt bound (high o)) (not_tied low bound o))

pub counted_top : (k : ℕ) (low : ℕ → ℕ) (seen : List ℕ) (is_top : ℕ → Bool) (bound : ℕ) → AreFirstByLow k low seen is_top
    → IsLeastLow low is_top bound
    → count_by is_top seen ≡ count_by (λ o. nat_lt bound (low o)) seen + count_by (λ o. is_top o && is_tied low bound o) seen
counted_top k low seen is_top bound first least =
    count_sum is_top (λ o. nat_lt bound (low o)) (λ o. is_top o && is_tied low bound o) seen
    (λ o c. split_top (is_top o) (nat_lt bound (low o)) (is_tied low bound o) (above_is_top k low seen is_top bound o first least c) (not_tied low bound o)
    (λ t no. let upto = ltb-false bound (low o) no in let least_low = least.least o t in eq-eqb (low o) bound (omega arith)))

-- ---- the others are within the bound exactly where each high behind the first k is
abbrev pub AreHighsWithin : ℕ → (ℕ → ℕ) → (ℕ → ℕ) → List ℕ → ℕ → Type 0
AreHighsWithin k low high seen bound = (item : Item) → Contains (drop k (in_order (map (with_bounds low high) seen))) item → item.high ≤ bound

mapped_some : (found : Option Item) (bound : ℕ) → option_map (λ (item : Item). item.low) found ≡ Some bound
    → (item : Item) × (found ≡ Some item) × (item.low ≡ bound)
mapped_some None bound e = absurd (let h : ⊥ = cc in h)
mapped_some (Some item) bound e = (item, refl, (let h : item.low ≡ bound = cc in h))

last_of : (k : ℕ) (low high : ℕ → ℕ) (seen : List ℕ) (bound : ℕ) → kth_low k (map (with_bounds low high) seen) ≡ Some bound
    → (item : Item) × (slice_get (in_order (map (with_bounds low high) seen)) (k - 1) ≡ Some item) × (item.low ≡ bound)
last_of k low high seen bound e = mapped_some (slice_get (in_order (map (with_bounds low high) seen)) (k - 1)) bound e

pub highs_within : (k : ℕ) (low high : ℕ → ℕ) (seen : List ℕ) (is_top : ℕ → Bool) (bound : ℕ) → 1 ≤ k → AreApart seen → k ≤ length seen
    → AreFirstByLow k low seen is_top → IsLeastLow low is_top bound → AreOthersWithin low high seen is_top bound
    → AreHighsWithin k low high seen bound
highs_within k low high seen is_top bound one apart enough first least within =
    let items = map (with_bounds low high) seen in
    let last = last_of k low high seen bound (kth_low_is k low high seen is_top bound one apart enough first least) in
    let full = top_is_full k low seen is_top enough first in
    let top = counted_top k low seen is_top bound first least in
    let above = counted_above low high seen bound in
    let tied = within.tied in
    let few : count_by (is_above bound) (in_order items) ≤ k = omega arith in
    highs_behind k (in_order items) last.0 bound one (in_order-ordered items (apart_items low high seen apart)) last.1 last.2
    (λ item c.
    let from = contains_map_from (with_bounds low high) seen item (in_order_from items item c) in
    subst (λ (i : Item). i.low < bound → i.high ≤ bound) from.2 (within.below from.0 from.1)) few

pub within_highs : (k : ℕ) (low high : ℕ → ℕ) (seen : List ℕ) (is_top : ℕ → Bool) (bound : ℕ) → 1 ≤ k → AreApart seen → k ≤ length seen
    → AreFirstByLow k low seen is_top → IsLeastLow low is_top bound → AreHighsWithin k low high seen bound
    → AreOthersWithin low high seen is_top bound
within_highs k low high seen is_top bound one apart enough first least highs =
    let items = map (with_bounds low high) seen in
    let ordered = in_order-ordered items (apart_items low high seen apart) in
    let last = last_of k low high seen bound (kth_low_is k low high seen is_top bound one apart enough first least) in
    let full = top_is_full k low seen is_top enough first in
    let top = counted_top k low seen is_top bound first least in
    let above = counted_above low high seen bound in
    let few : count_by (is_above bound) (in_order items) ≤ k = few_above_from k (in_order items) last.0 bound one ordered last.1 last.2 highs in
    record {
      below = λ object c less. none_below_from k (in_order items) last.0 bound one ordered last.1 last.2 highs (with_bounds low high object) (in_order_to items (with_bounds low high object) (contains_map (with_bounds low high) seen object c)) less;
      tied = omega arith;
    }

-- ---- the stop
idle_within : (found : Option ℕ) (bound number : ℕ) → found ≡ Some bound → not (exceeds found number) ≡ true → number ≤ bound
idle_within found bound number e t = go (nat_lt bound number) refl (sym (ap (λ o. not (exceeds o number)) e) ∙ t)
  where
    go : (b : Bool) → nat_lt bound number ≡ b → not b ≡ true → number ≤ bound
    go true s n = absurd (false≢true n)
    go false s n = ltb-false bound number s

within_idle : (found : Option ℕ) (bound number : ℕ) → found ≡ Some bound → number ≤ bound → not (exceeds found number) ≡ true
within_idle found bound number e within = ap (λ o. not (exceeds o number)) e ∙ ap not (le-ltb bound number within)

pub stop_from_quiet : (V : List ℕ → ℕ) (k m n : ℕ) (A : List Access) (is_top : ℕ → Bool) (bound : ℕ) → 1 ≤ k
    → AreFirstByLow k (low V m A) (seen_objects A) is_top → (k ≤ length (seen_objects A) → IsLeastLow (low V m A) is_top bound)
    → is_quiet_seen V k m n A ≡ true → MayStop k n (threshold V m A) (low V m A) (high V m A) (seen_objects A) is_top bound
stop_from_quiet V k m n A is_top bound one first least quiet =
    let seen = seen_objects A in
    let rest = list_all (λ (item : Item). is_idle V k m A item.high) (drop k (in_order (seen_items V m A))) in
    let unseen = leb n (length seen) || is_idle V k m A (threshold V m A) in
    let parts = and_parts (leb k (length seen)) (unseen && rest) quiet in
    let tests = and_parts unseen rest parts.1 in
    let enough : k ≤ length seen = leb-true k (length seen) parts.0 in
    let apart : AreApart seen = seen_distinct A in
    let kth : kth_low k (seen_items V m A) ≡ Some bound = kth_low_is k (low V m A) (high V m A) seen is_top bound one apart enough first (least enough) in
    record {
      enough = enough;
      unseen = elim (or_cases (leb n (length seen)) (is_idle V k m A (threshold V m A)) tests.0) [
        | inl all ↦ inl (leb-true n (length seen) all)
        | inr idle ↦ inr (idle_within (kth_low k (seen_items V m A)) bound (threshold V m A) kth idle)
      ];
      others = within_highs k (low V m A) (high V m A) seen is_top bound one apart enough first (least enough) (λ item c.
          idle_within (kth_low k (seen_items V m A)) bound item.high kth (all_passes (λ (i : Item). is_idle V k m A i.high) (drop k (in_order (seen_items V m A))) item tests.1 c));
    }

pub quiet_from_stop : (V : List ℕ → ℕ) (k m n : ℕ) (A : List Access) (is_top : ℕ → Bool) (bound : ℕ) → 1 ≤ k
    → AreFirstByLow k (low V m A) (seen_objects A) is_top → (k ≤ length (seen_objects A) → IsLeastLow (low V m A) is_top bound)
    → MayStop k n (threshold V m A) (low V m A) (high V m A) (seen_objects A) is_top bound → is_quiet_seen V k m n A ≡ true
quiet_from_stop V k m n A is_top bound one first least stop =
    let seen = seen_objects A in
    let items = drop k (in_order (seen_items V m A)) in
    let rest = list_all (λ (item : Item). is_idle V k m A item.high) items in
    let unseen = leb n (length seen) || is_idle V k m A (threshold V m A) in
    let apart : AreApart seen = seen_distinct A in
    let kth : kth_low k (seen_items V m A) ≡ Some bound = kth_low_is k (low V m A) (high V m A) seen is_top bound one apart stop.enough first (least stop.enough) in
    let highs = highs_within k (low V m A) (high V m A) seen is_top bound one apart stop.enough first (least stop.enough) stop.others in
    let none : unseen ≡ true = elim stop.unseen [
      | inl all ↦ or_left (leb n (length seen)) (is_idle V k m A (threshold V m A)) (le-leb n (length seen) all)
      | inr within ↦ or_right (leb n (length seen)) (is_idle V k m A (threshold V m A)) (within_idle (kth_low k (seen_items V m A)) bound (threshold V m A) kth within)
    ] in
    let each : rest ≡ true =
    list_all-from_AllPass (λ (item : Item). is_idle V k m A item.high) items (all_from_members (λ (item : Item). is_idle V k m A item.high ≡ true) items
    (λ item c. within_idle (kth_low k (seen_items V m A)) bound item.high kth (highs item c))) in
    and_from (leb k (length seen)) (unseen && rest) (le-leb k (length seen) stop.enough) (and_from unseen rest none each)
