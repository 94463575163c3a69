-- A sort by ranks puts items of different objects in order.
use Rattle.std.proofs.Common.{◌≡◌, ◌≢◌, ◌≤◌, ◌+◌, ◌==◌, ℕ, suc, true, false, cond, List, [], ◌∷◌, get_or, refl, sym, ap, ◌∙◌, subst, arith}
use Rattle.std.specs.declared.cmp.Ordering.TheVariants.{Less, Equal, Greater}
use Rattle.std.specs.Ordering.{is_lt, ordering_reverse}
use Rattle.std.specs.List.{AllByRecursion, sum_by}
use Rattle.std.specs.List.Sorted.{IsPermutation, IsSortedBy}
use Rattle.std.specs.BTreeMap.{is_at}
use Rattle.std.proofs.lemmas.Bool.{false≢true, ne_eqb, eq-eqb, eqb-true}
use Rattle.std.proofs.lemmas.List.Elements.{recursion_from_All}
use Rattle.std.proofs.lemmas.List.Sums.{sum_by-cons}
use Rattle.std.proofs.lemmas.List.Sorted.{sum_by-IsPermutation, list_any-IsPermutation}
use Rattle.std.proofs.lemmas.Map.Keys.{sorted_head}
use Rattle.ranked_list.specs.declared.item.Item.{Item}
use Rattle.topk_theory.specs.Order.{item_cmp, AreDistinct, in_order}
use Rattle.topk_theory.proofs.OrderLaws.{items_total, exact_items}
use Rattle.topk_theory.proofs.SortedKeys.{less_than_all}
use Rattle.topk_theory.proofs.InOrder.{Ascend, Ascend-nil, Ascend-cons, AreDistinct-rest, AreDistinct-first, in_order-ascends, ascending_one, has-in_order}

-- 1 where the item is the object's
abbrev pub one_of : ℕ → Item → ℕ
one_of object item = cond (item.object == object) 1 0

none_of_others : (item : Item) (rest : List Item) → AllByRecursion (λ (other : Item). item.object ≢ other.object) rest → sum_by (one_of item.object) rest ≡ 0
none_of_others item [] apart = refl
none_of_others item (other ∷ rest) apart =
    let none : one_of item.object other ≡ 0 = ap (λ t. cond {A = ℕ} t 1 0) (ne_eqb other.object item.object (λ e. apart.0 (sym e))) in
    let fewer = none_of_others item rest apart.1 in
    sum_by-cons (one_of item.object) other rest ∙ omega (arith, none, fewer)

-- of items of different objects at most one is an object's
at_most_one : (object : ℕ) (items : List Item) → AreDistinct items → sum_by (one_of object) items ≤ 1
at_most_one object [] apart = omega arith
at_most_one object (item ∷ rest) apart =
    let sum_is = sum_by-cons (one_of object) item rest in
    elim (item.object == object) as (λ t. (item.object == object) ≡ t → sum_by (one_of object) (item ∷ rest) ≤ 1) [
      | true ↦ λ e.
          let one : one_of object item ≡ 1 = ap (λ t. cond {A = ℕ} t 1 0) e in
          let others = none_of_others item rest (recursion_from_All (λ (other : Item). item.object ≢ other.object) rest (AreDistinct-first item rest apart)) in
          let none : sum_by (one_of object) rest ≡ 0 = subst (λ (o : ℕ). sum_by (one_of o) rest ≡ 0) (eqb-true item.object object e) others in
          omega (arith, sum_is, one, none)
      | false ↦ λ e.
          let none : one_of object item ≡ 0 = ap (λ t. cond {A = ℕ} t 1 0) e in
          let fewer = at_most_one object rest (AreDistinct-rest item rest apart) in
          omega (arith, sum_is, none, fewer)
    ] refl

-- neighbours of different objects, of which the later isn't less, ascend
less_neighbour : (a b : Item) → a.object ≢ b.object → is_lt (item_cmp b a) ≡ false → item_cmp a b ≡ Less
less_neighbour a b apart later =
    elim (item_cmp a b) as (λ r. item_cmp a b ≡ r → r ≡ Less) [
      | Less ↦ λ e. refl
      | Equal ↦ λ e. absurd (apart (ap (λ (item : Item). item.object) (exact_items a b e)))
      | Greater ↦ λ e. absurd (false≢true (sym later ∙ ap is_lt (items_total.antisymm b a ∙ ap ordering_reverse e)))
    ] refl

differs_from_next : (a b : Item) (rest : List Item) → sum_by (one_of b.object) (a ∷ b ∷ rest) ≤ 1 → a.object ≢ b.object
differs_from_next a b rest few same =
    let first : one_of b.object a ≡ 1 = ap (λ t. cond {A = ℕ} t 1 0) (eq-eqb a.object b.object same) in
    let second : one_of b.object b ≡ 1 = ap (λ t. cond {A = ℕ} t 1 0) (eq-eqb b.object b.object refl) in
    let sum_is = sum_by-cons (one_of b.object) a (b ∷ rest) in
    let rest_is = sum_by-cons (one_of b.object) b rest in
    absurd (omega (arith, few, first, second, sum_is, rest_is))

-- items that a sort gives, at most one of each object, ascend
sorted_ascend : (items : List Item) → ((object : ℕ) → sum_by (one_of object) items ≤ 1) → IsSortedBy (λ a b. is_lt (item_cmp a b)) items → Ascend items
sorted_ascend [] few sorted = Ascend-nil
sorted_ascend (item ∷ []) few sorted = Ascend-cons item [] tt Ascend-nil
sorted_ascend (item ∷ next ∷ rest) few sorted =
    let first : item_cmp item next ≡ Less = less_neighbour item next (differs_from_next item next rest (few next.object)) (sorted 0 item (omega arith) (omega arith)) in
    let fewer : (object : ℕ) → sum_by (one_of object) (next ∷ rest) ≤ 1 = λ object.
    let bound = few object in
    let sum_is = sum_by-cons (one_of object) item (next ∷ rest) in
    omega (arith, bound, sum_is) in
    let later : IsSortedBy (λ a b. is_lt (item_cmp a b)) (next ∷ rest) = λ k d low within.
    let e : suc k + 1 ≡ suc (k + 1) = omega arith in
    subst (λ (i : ℕ). is_lt (item_cmp (get_or (item ∷ next ∷ rest) i d) (get_or (next ∷ rest) k d)) ≡ false) e (sorted (suc k) d (omega arith) (omega arith)) in
    let others : Ascend (next ∷ rest) = sorted_ascend (next ∷ rest) fewer later in
    Ascend-cons item (next ∷ rest) (first, less_than_all items_total item next rest first (sorted_head item_cmp next rest others)) others

-- what a sort gives of items of different objects is these in order
pub sorted_in_order : (items sorted : List Item) → AreDistinct items → IsPermutation items sorted → IsSortedBy (λ a b. is_lt (item_cmp a b)) sorted
    → sorted ≡ in_order items
sorted_in_order items sorted apart same up =
    let few : (object : ℕ) → sum_by (one_of object) sorted ≤ 1 = λ object.
    let before = at_most_one object items apart in
    let kept = sum_by-IsPermutation (one_of object) items sorted same in
    omega (arith, before, kept) in
    ascending_one sorted (in_order items) (sorted_ascend sorted few up) (in_order-ascends items apart)
    (λ item. sym (list_any-IsPermutation (is_at (item_cmp item)) items sorted same) ∙ sym (has-in_order items item))
