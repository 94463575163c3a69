-- The order of items is a strict total order on items of different objects.
use Rattle.std.proofs.Common.{◌≡◌, ◌≢◌, ℕ, ◌<◌, ◌⊎◌, true, refl, sym, ap, ◌∙◌, inl, inr, arith}
use Rattle.std.specs.declared.cmp.Ordering.{Ordering}
use Rattle.std.specs.declared.cmp.Ordering.TheVariants.{Less, Equal, Greater}
use Rattle.std.specs.Ordering.{ordering_then, nat_cmp, is_lt}
use Rattle.std.specs.Cmp.{IsTotalOrder, tied_itself}
use Rattle.std.proofs.Common.{IsTrue, ◌↔◌}
use Rattle.std.proofs.lemmas.Bool.{false≢true}
use Rattle.std.proofs.lemmas.Cmp.{by_ranked, ranked}
use Rattle.std.specs.Ordering.{ordering_reverse}
use Rattle.std.proofs.lemmas.Cmp.{nat_cmp_total, on_total, then_total, back_total}
use Rattle.std.proofs.lemmas.Map.Lookups.{CmpEqualImpliesEq, exact_unsigned}
use Rattle.ranked_list.specs.declared.item.Item.{Item}
use Rattle.topk_theory.specs.Order.{item_cmp, IsBefore, is_before}

pub items_total : IsTotalOrder item_cmp
items_total =
    then_total (then_total (back_total (on_total (λ (item : Item). item.low) nat_cmp_total)) (back_total (on_total (λ (item : Item). item.high) nat_cmp_total))) (on_total (λ (item : Item). item.object) nat_cmp_total)

both_equal : (r s : Ordering) → ordering_then r s ≡ Equal → (r ≡ Equal) × (s ≡ Equal)
both_equal Less s e = absurd (cc)
both_equal Equal s e = (refl, e)
both_equal Greater s e = absurd (cc)

-- items that compare alike are one
pub exact_items : CmpEqualImpliesEq item_cmp
exact_items a b e =
    let by_object = both_equal (ordering_then (nat_cmp b.low a.low) (nat_cmp b.high a.high)) (nat_cmp a.object b.object) e in
    let by_bounds = both_equal (nat_cmp b.low a.low) (nat_cmp b.high a.high) by_object.0 in
    let same_object : a.object ≡ b.object = exact_unsigned a.object b.object by_object.1 in
    let same_low : a.low ≡ b.low = sym (exact_unsigned b.low a.low by_bounds.0) in
    let same_high : a.high ≡ b.high = sym (exact_unsigned b.high a.high by_bounds.1) in
    λ i. record { object = same_object i; low = same_low i; high = same_high i }

nat_less : (a b : ℕ) → a < b → nat_cmp a b ≡ Less
nat_less a b h =
    by_ranked (a < b) (a ≡ b) (b < a) (nat_cmp a b) (ranked a b (nat_cmp a b) refl) (λ e _. e) (λ _ same. absurd (omega arith)) (λ _ more. absurd (omega arith))

nat_equal : (a b : ℕ) → a ≡ b → nat_cmp a b ≡ Equal
nat_equal a b h =
    by_ranked (a < b) (a ≡ b) (b < a) (nat_cmp a b) (ranked a b (nat_cmp a b) refl) (λ _ less. absurd (omega arith)) (λ e _. e) (λ _ more. absurd (omega arith))

less_from_nat : (a b : ℕ) → nat_cmp a b ≡ Less → a < b
less_from_nat a b h = ranked a b Less (sym h)

-- what is before compares as less
pub less_from_before : (a b : Item) → IsBefore a b → item_cmp a b ≡ Less
less_from_before a b (inl low) =
    ap (λ (r : Ordering). ordering_then (ordering_then r (nat_cmp b.high a.high)) (nat_cmp a.object b.object)) (nat_less b.low a.low low)
less_from_before a b (inr (low, inl high)) =
    ap (λ (r : Ordering). ordering_then (ordering_then r (nat_cmp b.high a.high)) (nat_cmp a.object b.object)) (nat_equal b.low a.low (sym low))
    ∙ ap (λ (r : Ordering). ordering_then r (nat_cmp a.object b.object)) (nat_less b.high a.high high)
less_from_before a b (inr (low, inr (high, object))) =
    ap (λ (r : Ordering). ordering_then (ordering_then r (nat_cmp b.high a.high)) (nat_cmp a.object b.object)) (nat_equal b.low a.low (sym low))
    ∙ ap (λ (r : Ordering). ordering_then r (nat_cmp a.object b.object)) (nat_equal b.high a.high (sym high))
    ∙ nat_less a.object b.object object

-- a chain of two comparisons is less by the first, or by the second at a tie
then_less : (r s : Ordering) → ordering_then r s ≡ Less → (r ≡ Less) ⊎ ((r ≡ Equal) × (s ≡ Less))
then_less Less s e = inl refl
then_less Equal s e = inr (refl, e)
then_less Greater s e = absurd (cc)

-- what compares as less is before
pub before_from_less : (a b : Item) → item_cmp a b ≡ Less → IsBefore a b
before_from_less a b e =
    elim (then_less (ordering_then (nat_cmp b.low a.low) (nat_cmp b.high a.high)) (nat_cmp a.object b.object) e) [
      | inl bounds ↦
          elim (then_less (nat_cmp b.low a.low) (nat_cmp b.high a.high) bounds) [
            | inl low ↦ inl (less_from_nat b.low a.low low)
            | inr (low, high) ↦ inr (sym (exact_unsigned b.low a.low low), inl (less_from_nat b.high a.high high))
          ]
      | inr (bounds, object) ↦
          let both = both_equal (nat_cmp b.low a.low) (nat_cmp b.high a.high) bounds in
          inr (sym (exact_unsigned b.low a.low both.0), inr (sym (exact_unsigned b.high a.high both.1), less_from_nat a.object b.object object))
    ]

less_tested : (r : Ordering) → is_lt r ≡ true → r ≡ Less
less_tested Less e = refl
less_tested Equal e = absurd (false≢true e)
less_tested Greater e = absurd (false≢true e)

-- the test says what `IsBefore` says
pub is_before-iff : (a b : Item) → IsTrue (is_before a b) ↔ IsBefore a b
is_before-iff a b =
    (λ tested. before_from_less a b (less_tested (item_cmp a b) tested), λ before. ap is_lt (less_from_before a b before))

-- ---- a strict total order on items of different objects
pub IsBefore-irreflexive : (a : Item) → IsBefore a a → ⊥
IsBefore-irreflexive a h = false≢true (ap is_lt (sym (tied_itself items_total a) ∙ less_from_before a a h))

pub IsBefore-transitive : (a b c : Item) → IsBefore a b → IsBefore b c → IsBefore a c
IsBefore-transitive a b c h g =
    before_from_less a c (items_total.trans a b c (less_from_before a b h) (less_from_before b c g))

pub IsBefore-asymmetric : (a b : Item) → IsBefore a b → IsBefore b a → ⊥
IsBefore-asymmetric a b h g = IsBefore-irreflexive a (IsBefore-transitive a b a h g)

pub IsBefore-total : (a b : Item) → a.object ≢ b.object → IsBefore a b ⊎ IsBefore b a
IsBefore-total a b apart =
    elim (item_cmp a b) as (λ r. item_cmp a b ≡ r → IsBefore a b ⊎ IsBefore b a) [
      | Less ↦ λ e. inl (before_from_less a b e)
      | Equal ↦ λ e. absurd (apart (ap (λ (item : Item). item.object) (exact_items a b e)))
      | Greater ↦ λ e. inr (before_from_less b a (items_total.antisymm b a ∙ ap ordering_reverse e))
    ] refl
