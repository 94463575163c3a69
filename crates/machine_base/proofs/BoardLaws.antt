-- What a board answers, by the ranks of the places.
use Rattle.std.proofs.Common.{◌≡◌, ◌≢◌, ◌==◌, ◌⊎◌, inl, inr, ℕ, zero, suc, ◌+◌, ◌-◌, ◌<◌, ◌≤◌, Bool, true, false, ◌||◌, min, List, [], ◌∷◌, Option, Some, None, length, take, get_or, is_some, refl, sym, ap, ◌∙◌, subst, arith}
use Rattle.std.specs.declared.cmp.Ordering.TheVariants.{Greater}
use Rattle.std.specs.declared.cmp.Reverse.{Reverse}
use Rattle.std.specs.List.{AllPairs, Contains, count_by, slice_get}
use Rattle.std.specs.List.Sorted.{IsPermutation}
use Rattle.std.specs.Option.{option_map, MatchOption}
use Rattle.std.specs.Ordering.{ordering_reverse}
use Rattle.std.proofs.lemmas.Bool.{cases_eq, cases_order, eq-eqb, ne_eqb}
use Rattle.std.proofs.lemmas.List.{take_all, get_or_default}
use Rattle.std.proofs.lemmas.List.Sorted.{Contains-permutation, IsPermutation-sym, list_any-IsPermutation, length_permutation}
use Rattle.std.proofs.lemmas.Option.{none-some, same_Some, slice_get_past, slice_get_within, slice_get-get_or, get_or_from_slice_get}
use Rattle.ranked_list.specs.declared.item.Item.{Item}
use Rattle.containers.specs.Ranks.{rank_at}
use Rattle.topk_theory.specs.Order.{item_cmp, IsBefore, AreDistinct, in_order, first_k, kth_low, lows, IsFirstK, IsKthLargest}
use Rattle.topk_theory.proofs.OrderLaws.{items_total, less_from_before}
use Rattle.topk_theory.proofs.InOrder.{in_order-permutes, length-in_order, in_order-ordered}
use Rattle.topk_theory.proofs.FirstK.{first_k-is, first_k-only}
use Rattle.topk_theory.proofs.KthLow.{kth_low-counts}
use Rattle.topk_theory.proofs.AgreementLists.{all_from_members}
use Rattle.machine_base.specs.declared.rank.Rank.{Rank}
use Rattle.machine_base.specs.Rank.{item_of}
use Rattle.machine_base.specs.Held.{risen, has_object}
use Rattle.machine_base.specs.Halves.{joined, either, IsHalved, IsLast, HasFewer}
use Rattle.machine_base.specs.Kept.{items_in, AreRanksOf}
use Rattle.machine_base.proofs.HeldLaws.{AreDistinct-from_rising}
use Rattle.machine_base.proofs.Joining.{at-joined, count-joined, some_counted}
use Rattle.machine_base.proofs.Rising.{risen-rises, risen-permutes, in_items, from_items, length-items_in, items_distinct, HaveOnePlace}

slice_get-take : {T : Type 0} (n : ℕ) (xs : List T) (i : ℕ) → i < n → slice_get (take n xs) i ≡ slice_get xs i
slice_get-take zero xs i below = absurd (omega arith)
slice_get-take (suc n) [] i below = refl
slice_get-take (suc n) (x ∷ xs) zero below = refl
slice_get-take (suc n) (x ∷ xs) (suc i) below = slice_get-take n xs i (omega arith)

-- the ranks of the first are ranks of a place
pub top_joined : (k : ℕ) (top : List (Option Rank)) (rest : List (Option (Reverse Rank))) → IsHalved k top rest → (place : ℕ) (rank : Rank)
    → rank_at top place ≡ Some rank → rank_at (joined top rest) place ≡ Some rank
top_joined k top rest halved place rank at = at-joined top rest halved.same_room place ∙ ap (λ (r : Option Rank). either r (rank_at rest place)) at

-- a place that has a rank has it among the first or among the others
side_of : (k : ℕ) (top : List (Option Rank)) (rest : List (Option (Reverse Rank))) → IsHalved k top rest → (place : ℕ) (rank : Rank)
    → rank_at (joined top rest) place ≡ Some rank
    → (rank_at top place ≡ Some rank) ⊎ ((other : Reverse Rank) × (rank_at rest place ≡ Some other) × (other.0 ≡ rank))
side_of k top rest halved place rank at = by_case (rank_at top place) (rank_at rest place) refl refl
  where
    whole : either (rank_at top place) (rank_at rest place) ≡ Some rank
    whole = sym (at-joined top rest halved.same_room place) ∙ at

    by_case : (a : Option Rank) (b : Option (Reverse Rank)) → rank_at top place ≡ a → rank_at rest place ≡ b
        → (rank_at top place ≡ Some rank) ⊎ ((other : Reverse Rank) × (rank_at rest place ≡ Some other) × (other.0 ≡ rank))
    by_case (Some a) b is is' = inl (is ∙ sym (ap (λ (r : Option Rank). either r (rank_at rest place)) is) ∙ whole)
    by_case None (Some b) is is' =
        inr (b, is', same_Some b.0 rank (sym (ap (λ (r : Option Rank). either r (rank_at rest place)) is ∙ ap (either None) is') ∙ whole))
    by_case None None is is' = absurd (none-some rank (sym (ap (λ (r : Option Rank). either r (rank_at rest place)) is ∙ ap (either None) is') ∙ whole))

-- ---- places and objects
-- distinct keys have one place each
pub one_place : (keys : List ℕ) → AllPairs (λ (a : ℕ) (b : ℕ). a ≢ b) keys → (p q object : ℕ) → slice_get keys p ≡ Some object → slice_get keys q ≡ Some object
    → p ≡ q
one_place keys distinct p q object at at' =
    let within = slice_get_within keys p object at in
    let within' = slice_get_within keys q object at' in
    let here = get_or_from_slice_get keys p object object at in
    let there = get_or_from_slice_get keys q object object at' in
    elim (cases_order p q) as (λ _. p ≡ q) [
      | inl e ↦ e
      | inr apart ↦ elim apart as (λ _. p ≡ q) [
        | inl less ↦ absurd (distinct p q object less within' (here ∙ sym there))
        | inr more ↦ absurd (distinct q p object more within (there ∙ sym here))
      ]
    ]

pub HaveOnePlace-joined : (places : List ℕ) (ranks : List (Option Rank)) → AllPairs (λ (a : ℕ) (b : ℕ). a ≢ b) places → AreRanksOf places ranks
    → HaveOnePlace ranks
HaveOnePlace-joined places ranks distinct are = λ p q a b at at' same.
    one_place places distinct p q a.object (are.own p a at) (are.own q b at' ∙ ap (λ (o : ℕ). Some o) (sym same))

pub has_it : (object : ℕ) (ranks : List (Option Rank)) (place : ℕ) (rank : Rank) → rank_at ranks place ≡ Some rank → rank.object ≡ object
    → has_object object (items_in ranks) ≡ true
has_it object [] place rank at same = absurd (none-some rank at)
has_it object (None ∷ ranks) zero rank at same = absurd (none-some rank at)
has_it object (None ∷ ranks) (suc place) rank at same = has_it object ranks place rank at same
has_it object (Some first ∷ ranks) zero rank at same =
    ap (λ b. b || has_object object (items_in ranks)) (eq-eqb first.object object (ap (λ (r : Rank). r.object) (same_Some first rank at) ∙ same))
has_it object (Some first ∷ ranks) (suc place) rank at same =
    ap (λ b. (first.object == object) || b) (has_it object ranks place rank at same) ∙ or_true (first.object == object)
  where
    or_true : (b : Bool) → (b || true) ≡ true
    or_true true = refl
    or_true false = refl

pub lacks_it : (object : ℕ) (ranks : List (Option Rank)) → ((place : ℕ) (rank : Rank) → rank_at ranks place ≡ Some rank → rank.object ≢ object)
    → has_object object (items_in ranks) ≡ false
lacks_it object [] apart = refl
lacks_it object (None ∷ ranks) apart = lacks_it object ranks (λ place. apart (suc place))
lacks_it object (Some first ∷ ranks) apart =
    ap (λ b. b || has_object object (items_in ranks)) (ne_eqb first.object object (apart 0 first refl)) ∙ lacks_it object ranks (λ place. apart (suc place))

-- ---- the items, of which the first k are those of the first
module _ (k : ℕ) (top : List (Option Rank)) (rest : List (Option (Reverse Rank))) (halved : IsHalved k top rest) (apart : HaveOnePlace (joined top rest)) where
  top_apart : HaveOnePlace top
  top_apart = λ p q a b at at' same. apart p q a b (top_joined k top rest halved p a at) (top_joined k top rest halved q b at') same

  pub items_apart : AreDistinct (risen (items_in (joined top rest)))
  items_apart = AreDistinct-from_rising (risen (items_in (joined top rest))) (risen-rises (items_in (joined top rest)))

  permuted : IsPermutation (items_in (joined top rest)) (risen (items_in (joined top rest)))
  permuted = risen-permutes (items_in (joined top rest)) (items_distinct (joined top rest) apart)

  pub length-items : length (risen (items_in (joined top rest))) ≡ count_by is_some top + count_by is_some rest
  length-items =
      length_permutation (items_in (joined top rest)) (risen (items_in (joined top rest))) permuted ∙ length-items_in (joined top rest)
      ∙ count-joined top rest halved.same_room halved.apart

  member_in : (place : ℕ) (rank : Rank) → rank_at (joined top rest) place ≡ Some rank → Contains (risen (items_in (joined top rest))) (item_of rank)
  member_in place rank at =
      Contains-permutation (items_in (joined top rest)) (risen (items_in (joined top rest))) (item_of rank) permuted (in_items (joined top rest) place rank at)

  member_from : (item : Item) → Contains (risen (items_in (joined top rest))) item
      → (place : ℕ) × (rank : Rank) × (rank_at (joined top rest) place ≡ Some rank) × (item_of rank ≡ item)
  member_from item there =
      from_items (joined top rest) item
      (Contains-permutation (risen (items_in (joined top rest))) (items_in (joined top rest)) item (IsPermutation-sym (items_in (joined top rest)) (risen (items_in (joined top rest))) permuted) there)

  first_in : (place : ℕ) (rank : Rank) → rank_at top place ≡ Some rank → Contains (in_order (items_in top)) (item_of rank)
  first_in place rank at =
      Contains-permutation (items_in top) (in_order (items_in top)) (item_of rank) (in_order-permutes (items_in top)) (in_items top place rank at)

  first_from : (item : Item) → Contains (in_order (items_in top)) item → (place : ℕ) × (rank : Rank) × (rank_at top place ≡ Some rank) × (item_of rank ≡ item)
  first_from item there =
      from_items top item (Contains-permutation (in_order (items_in top)) (items_in top) item (IsPermutation-sym (items_in top) (in_order (items_in top)) (in_order-permutes (items_in top))) there)

  length-first : length (in_order (items_in top)) ≡ count_by is_some top
  length-first = length-in_order (items_in top) ∙ length-items_in top

  fewest : count_by is_some top ≡ min k (length (risen (items_in (joined top rest))))
  fewest =
      let all = length-items in
      let few = halved.few in
      elim (some_counted rest) as (λ _. count_by is_some top ≡ min k (length (risen (items_in (joined top rest))))) [
        | inl none ↦ omega arith
        | inr found ↦ let full = halved.full found.0 found.1 found.2 in omega arith
      ]

  -- what stands before another stands after none that is no later than it
  not_ahead : (inside outside : Item) → item_cmp inside outside ≢ Greater → IsBefore outside inside → ⊥
  not_ahead inside outside upto before = upto (items_total.antisymm inside outside ∙ ap ordering_reverse (less_from_before outside inside before))

  is_first : IsFirstK k (risen (items_in (joined top rest))) (in_order (items_in top))
  is_first = record {
    ordered = in_order-ordered (items_in top) (items_distinct top top_apart);
    size = length-first ∙ fewest;
    held = all_from_members (Contains (risen (items_in (joined top rest)))) (in_order (items_in top)) (λ item there.
        let found = first_from item there in
        subst (Contains (risen (items_in (joined top rest)))) found.3 (member_in found.0 found.1 (top_joined k top rest halved found.0 found.1 found.2)));
    none_ahead = λ inside outside within there beyond before.
        let a = first_from inside within in
        let b = member_from outside there in
        elim (side_of k top rest halved b.0 b.1 b.2) as (λ _. ⊥) [
          | inl at ↦ beyond (subst (Contains (in_order (items_in top))) b.3 (first_in b.0 b.1 at))
          | inr other ↦
              let upto = halved.before a.0 b.0 a.1 other.0 a.2 other.1 in
              let outside_is : item_of other.0.0 ≡ outside = ap item_of other.2 ∙ b.3 in
              not_ahead inside outside
              (subst (λ (i : Item). item_cmp i outside ≢ Greater) a.3 (subst (λ (o : Item). item_cmp (item_of a.1) o ≢ Greater) outside_is upto)) before
        ];
  }

  pub first_is : in_order (items_in top) ≡ first_k k (risen (items_in (joined top rest)))
  first_is = first_k-only k (risen (items_in (joined top rest))) (in_order (items_in top)) items_apart is_first

  pub first_distinct : AreDistinct (items_in top)
  first_distinct = items_distinct top top_apart

  pub first_k-holds : IsFirstK k (risen (items_in (joined top rest))) (first_k k (risen (items_in (joined top rest))))
  first_k-holds = first_k-is k (risen (items_in (joined top rest))) items_apart

  -- ---- the k-th low
  nothing_left : HasFewer k top → length (risen (items_in (joined top rest))) < k
  nothing_left fewer =
      let all = length-items in
      elim (some_counted rest) as (λ _. length (risen (items_in (joined top rest))) < k) [
        | inl none ↦ omega arith
        | inr found ↦ let full = halved.full found.0 found.1 found.2 in absurd (omega arith)
      ]

  last_at : (last : Rank) → IsLast k top last → slice_get (in_order (items_in top)) (k - 1) ≡ Some (item_of last)
  last_at last is =
      let few = halved.few in
      let whole = is.whole in
      let positive = halved.positive in
      let size = length-first in
      let within : k - 1 < length (in_order (items_in top)) = omega arith in
      let there = first_in is.there.0 last is.there.1 in
      slice_get-get_or (in_order (items_in top)) (k - 1) (item_of last) within ∙ ap (λ (i : Item). Some i) (is_it there within (cases_eq there.0 (k - 1)))
    where
      is_it : (there : Contains (in_order (items_in top)) (item_of last)) → k - 1 < length (in_order (items_in top)) → (there.0 ≡ k - 1) ⊎ (there.0 ≢ k - 1)
          → get_or (in_order (items_in top)) (k - 1) (item_of last) ≡ item_of last
      is_it there within (inl e) = ap (λ p. get_or (in_order (items_in top)) p (item_of last)) (sym e) ∙ there.2
      is_it there within (inr other) =
          let few = halved.few in
          let size = length-first in
          let inside = there.1 in
          let earlier : there.0 < k - 1 = omega arith in
          let ordered = in_order-ordered (items_in top) (items_distinct top top_apart) in
          let before = ordered there.0 (k - 1) (item_of last) earlier within in
          let found = first_from (get_or (in_order (items_in top)) (k - 1) (item_of last)) (k - 1, within, get_or_default (in_order (items_in top)) (k - 1) (get_or (in_order (items_in top)) (k - 1) (item_of last)) (item_of last) within) in
          let upto = is.none_after found.0 found.1 found.2 in
          absurd (not_ahead (get_or (in_order (items_in top)) (k - 1) (item_of last)) (item_of last) (subst (λ (i : Item). item_cmp i (item_of last) ≢ Greater) found.3 upto)
          (subst (λ (i : Item). IsBefore i (get_or (in_order (items_in top)) (k - 1) (item_of last))) there.2 before))

  pub kth_is : (last : Option Rank) → MatchOption last (HasFewer k top) (IsLast k top)
      → option_map (λ (rank : Rank). rank.low) last ≡ kth_low k (risen (items_in (joined top rest)))
  kth_is None fewer =
      let left = nothing_left fewer in
      let size = length-in_order (risen (items_in (joined top rest))) in
      let past : length (in_order (risen (items_in (joined top rest)))) ≤ k - 1 = omega arith in
      sym (ap (option_map (λ (item : Item). item.low)) (slice_get_past (in_order (risen (items_in (joined top rest)))) (k - 1) past))
  kth_is (Some last) is =
      let positive = halved.positive in
      let below : k - 1 < k = omega arith in
      sym (ap (option_map (λ (item : Item). item.low))
      (sym (slice_get-take k (in_order (risen (items_in (joined top rest)))) (k - 1) below) ∙ ap (λ (items : List Item). slice_get items (k - 1)) (sym first_is) ∙ last_at last is))

  -- the low of the last is the k-th largest, and without a last they are fewer
  pub kth_counts : (last : Option Rank) → MatchOption last (HasFewer k top) (IsLast k top)
      → MatchOption (option_map (λ (rank : Rank). rank.low) last) (length (risen (items_in (joined top rest))) < k)
      (IsKthLargest k (lows (risen (items_in (joined top rest)))))
  kth_counts last is =
      subst (λ (low : Option ℕ). MatchOption low (length (risen (items_in (joined top rest))) < k) (IsKthLargest k (lows (risen (items_in (joined top rest)))))) (sym (kth_is last is))
      (kth_low-counts k (risen (items_in (joined top rest))) halved.positive items_apart)

  -- ---- whether an object is among the first k
  has_first : (object : ℕ) → has_object object (first_k k (risen (items_in (joined top rest)))) ≡ has_object object (items_in top)
  has_first object =
      ap (has_object object) (sym first_is)
      ∙ sym (list_any-IsPermutation (λ (item : Item). item.object == object) (items_in top) (in_order (items_in top)) (in_order-permutes (items_in top)))

  pub top_is : (keys : List ℕ) (object place : ℕ) → AllPairs (λ (a : ℕ) (b : ℕ). a ≢ b) keys → AreRanksOf keys (joined top rest)
      → slice_get keys place ≡ Some object → is_some (rank_at top place) ≡ has_object object (first_k k (risen (items_in (joined top rest))))
  top_is keys object place distinct are at = by_case (rank_at top place) refl ∙ sym (has_first object)
    where
      by_case : (rank : Option Rank) → rank_at top place ≡ rank → is_some (rank_at top place) ≡ has_object object (items_in top)
      by_case (Some rank) is =
          ap is_some is
          ∙ sym (has_it object top place rank is (same_Some rank.object object (sym (are.own place rank (top_joined k top rest halved place rank is)) ∙ at)))
      by_case None is =
          ap is_some is
          ∙ sym (lacks_it object top (λ other rank at' same.
          let e = one_place keys distinct other place object (are.own other rank (top_joined k top rest halved other rank at') ∙ ap (λ (o : ℕ). Some o) same) at in
          none-some rank (sym (ap (rank_at top) e ∙ is) ∙ at')))

  pub no_top : (keys : List ℕ) (object : ℕ) → AreRanksOf keys (joined top rest) → ((place : ℕ) → slice_get keys place ≡ Some object → ⊥)
      → false ≡ has_object object (first_k k (risen (items_in (joined top rest))))
  no_top keys object are absent =
      sym (has_first object
      ∙ lacks_it object top (λ place rank at same. absent place (are.own place rank (top_joined k top rest halved place rank at) ∙ ap (λ (o : ℕ). Some o) same)))

-- of no more than k items each is among the first k
pub has_object-all : (object k : ℕ) (items : List Item) → length items ≤ k → has_object object (first_k k items) ≡ has_object object items
has_object-all object k items few =
    let size = length-in_order items in
    let fits : length (in_order items) ≤ k = omega arith in
    ap (has_object object) (take_all k (in_order items) fits)
    ∙ sym (list_any-IsPermutation (λ (item : Item). item.object == object) items (in_order items) (in_order-permutes items))
