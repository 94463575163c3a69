-- The items in order: the same items, in order, and the only list that is so.
use Rattle.std.proofs.Common.{◌≡◌, ◌≢◌, ◌↔◌, suc, Bool, true, false, cond, ◌||◌, List, [], ◌∷◌, length, get_or, refl, sym, ap, ◌∙◌, inl, inr, arith}
use Rattle.std.specs.declared.cmp.Ordering.TheVariants.{Less, Equal, Greater}
use Rattle.std.specs.Ordering.{is_eq, is_lt}
use Rattle.std.specs.Cmp.{eq_by_cmp_equiv}
use Rattle.std.specs.List.{AllByRecursion, list_any, All, Contains}
use Rattle.std.specs.List.Sorted.{IsStrictlySortedBy, IsPermutation}
use Rattle.std.specs.BTreeMap.{is_at}
use Rattle.std.proofs.lemmas.Bool.{false≢true, cases_Bool}
use Rattle.std.proofs.lemmas.List.Elements.{recursion_from_All}
use Rattle.std.proofs.lemmas.List.Sorted.{IsPermutation-refl, IsPermutation-sym, IsPermutation-cons, IsPermutation-trans, IsPermutation-middle, list_any-IsPermutation, length_permutation}
use Rattle.std.proofs.lemmas.Map.Keys.{sorted_head, sorted_tail, Less-from_sorted}
use Rattle.std.proofs.lemmas.Map.Views.{Contains-from_any, list_any-from_Contains, tells_apart}
use Rattle.std.proofs.lemmas.Map.Lookups.{btree_set_from_contains}
use Rattle.ranked_list.specs.declared.item.Item.{Item}
use Rattle.topk_theory.specs.Order.{item_cmp, is_before, AreDistinct, IsInOrder, with_placed, in_order}
use Rattle.topk_theory.proofs.OrderLaws.{items_total, exact_items, less_from_before, before_from_less}
use Rattle.topk_theory.proofs.SortedKeys.{less_than_all, less_from_greater}

-- whether the item is one of them
abbrev pub has_item : List Item → Item → Bool
has_item items item = list_any (is_at (item_cmp item)) items

-- each item is before those after it, by recursion
abbrev pub Ascend : List Item → Type 0
Ascend items = IsStrictlySortedBy item_cmp items

pub Ascend-nil : Ascend []
unfolding IsStrictlySortedBy
Ascend-nil = tt

pub Ascend-cons : (item : Item) (rest : List Item) → AllByRecursion (λ other. item_cmp item other ≡ Less) rest → Ascend rest → Ascend (item ∷ rest)
unfolding IsStrictlySortedBy
Ascend-cons item rest first others = (first, others)

-- ---- `Contains` and the test
pub has_from_Contains : (items : List Item) (item : Item) → Contains items item → has_item items item ≡ true
has_from_Contains items item h = list_any-from_Contains (eq_by_cmp_equiv items_total) item items h

pub Contains-from_has : (items : List Item) (item : Item) → has_item items item ≡ true → Contains items item
Contains-from_has items item h = Contains-from_any (tells_apart exact_items) item items h

-- lists with the same items answer the test alike
pub same_has : (others items : List Item) → ((item : Item) → Contains others item ↔ Contains items item) → (item : Item)
    → has_item others item ≡ has_item items item
same_has others items same item =
    elim (cases_Bool (has_item items item)) [
      | inl found ↦ has_from_Contains others item ((same item).1 (Contains-from_has items item found)) ∙ sym found
      | inr lacks ↦
          elim (cases_Bool (has_item others item)) [
            | inl found ↦ absurd (false≢true (sym lacks ∙ has_from_Contains items item ((same item).0 (Contains-from_has others item found))))
            | inr none ↦ none ∙ sym lacks
          ]
    ]

-- ---- items of different objects
pub AreDistinct-rest : (item : Item) (rest : List Item) → AreDistinct (item ∷ rest) → AreDistinct rest
AreDistinct-rest item rest apart = λ i j d below within. apart (suc i) (suc j) d (omega arith) (omega arith)

pub AreDistinct-first : (item : Item) (rest : List Item) → AreDistinct (item ∷ rest) → All (λ (other : Item). item.object ≢ other.object) rest
AreDistinct-first item rest apart = λ k d within. apart 0 (suc k) d (omega arith) (omega arith)

-- an item of another object than each is none of them
pub has-other : (item : Item) (rest : List Item) → AllByRecursion (λ (other : Item). item.object ≢ other.object) rest → has_item rest item ≡ false
has-other item [] apart = refl
has-other item (other ∷ rest) apart =
    elim (item_cmp item other) as (λ r. item_cmp item other ≡ r → (is_eq r || has_item rest item) ≡ false) [
      | Less ↦ λ _. has-other item rest apart.1
      | Equal ↦ λ e. absurd (apart.0 (ap (λ (i : Item). i.object) (exact_items item other e)))
      | Greater ↦ λ _. has-other item rest apart.1
    ] refl

-- ---- an item in its place
pub with_placed-permutes : (item : Item) (items : List Item) → IsPermutation (item ∷ items) (with_placed item items)
with_placed-permutes item [] = IsPermutation-refl (item ∷ [])
with_placed-permutes item (first ∷ rest) =
    elim (is_before item first) as (λ b. IsPermutation (item ∷ first ∷ rest) (cond b (item ∷ first ∷ rest) (first ∷ with_placed item rest))) [
      | true ↦ IsPermutation-refl (item ∷ first ∷ rest)
      | false ↦
          IsPermutation-trans (item ∷ first ∷ rest) (first ∷ item ∷ rest) (first ∷ with_placed item rest)
          (IsPermutation-sym (first ∷ item ∷ rest) (item ∷ first ∷ rest) (IsPermutation-middle (first ∷ []) item rest))
          (IsPermutation-cons first (item ∷ rest) (with_placed item rest) (with_placed-permutes item rest))
    ]

-- what is before an item and those in order is before each when it is placed
before_placed : (first item : Item) (rest : List Item) → item_cmp first item ≡ Less → AllByRecursion (λ other. item_cmp first other ≡ Less) rest
    → AllByRecursion (λ other. item_cmp first other ≡ Less) (with_placed item rest)
before_placed first item [] less all = (less, tt)
before_placed first item (next ∷ rest) less all =
    elim (is_before item next) as (λ b. AllByRecursion (λ other. item_cmp first other ≡ Less) (cond b (item ∷ next ∷ rest) (next ∷ with_placed item rest))) [
      | true ↦ (less, all)
      | false ↦ (all.0, before_placed first item rest less all.1)
    ]

pub with_placed-ascends : (item : Item) (items : List Item) → has_item items item ≡ false → Ascend items → Ascend (with_placed item items)
with_placed-ascends item [] absent up = Ascend-cons item [] tt Ascend-nil
with_placed-ascends item (first ∷ rest) absent up =
    let above = sorted_head item_cmp first rest up in
    elim (item_cmp item first) as (λ r. item_cmp item first ≡ r → (is_eq r || has_item rest item) ≡ false → Ascend (cond (is_lt r) (item ∷ first ∷ rest) (first ∷ with_placed item rest))) [
      | Less ↦ λ less _. Ascend-cons item (first ∷ rest) (less, less_than_all items_total item first rest less above) up
      | Equal ↦ λ _ same. absurd (false≢true (sym same))
      | Greater ↦ λ greater none.
          Ascend-cons first (with_placed item rest) (before_placed first item rest (less_from_greater items_total item first greater) above)
          (with_placed-ascends item rest none (sorted_tail item_cmp first rest up))
    ] refl absent

-- ---- the items in order
-- they are the same items
pub in_order-permutes : (items : List Item) → IsPermutation items (in_order items)
in_order-permutes [] = IsPermutation-refl []
in_order-permutes (item ∷ rest) =
    IsPermutation-trans (item ∷ rest) (item ∷ in_order rest) (with_placed item (in_order rest))
    (IsPermutation-cons item rest (in_order rest) (in_order-permutes rest)) (with_placed-permutes item (in_order rest))

pub length-in_order : (items : List Item) → length (in_order items) ≡ length items
length-in_order items = length_permutation items (in_order items) (in_order-permutes items)

pub has-in_order : (items : List Item) (item : Item) → has_item (in_order items) item ≡ has_item items item
has-in_order items item = sym (list_any-IsPermutation (is_at (item_cmp item)) items (in_order items) (in_order-permutes items))

pub in_order-ascends : (items : List Item) → AreDistinct items → Ascend (in_order items)
in_order-ascends [] apart = Ascend-nil
in_order-ascends (item ∷ rest) apart =
    with_placed-ascends item (in_order rest)
    (has-in_order rest item ∙ has-other item rest (recursion_from_All (λ (other : Item). item.object ≢ other.object) rest (AreDistinct-first item rest apart)))
    (in_order-ascends rest (AreDistinct-rest item rest apart))

-- between the two forms of being in order
pub IsInOrder-from_Ascend : (items : List Item) → Ascend items → IsInOrder items
IsInOrder-from_Ascend items up = λ i j d below within.
    before_from_less (get_or items i d) (get_or items j d) (Less-from_sorted item_cmp items i j d up below within)

pub Ascend-from_IsInOrder : (items : List Item) → IsInOrder items → Ascend items
Ascend-from_IsInOrder [] ordered = Ascend-nil
Ascend-from_IsInOrder (item ∷ rest) ordered =
    let first : All (λ other. item_cmp item other ≡ Less) rest = λ k d within. less_from_before item (get_or rest k d) (ordered 0 (suc k) d (omega arith) (omega arith)) in
    let others : IsInOrder rest = λ i j d below within. ordered (suc i) (suc j) d (omega arith) (omega arith) in
    Ascend-cons item rest (recursion_from_All (λ other. item_cmp item other ≡ Less) rest first) (Ascend-from_IsInOrder rest others)

-- they are in order
pub in_order-ordered : (items : List Item) → AreDistinct items → IsInOrder (in_order items)
in_order-ordered items apart = IsInOrder-from_Ascend (in_order items) (in_order-ascends items apart)

-- ascending lists that answer the test alike are one
pub ascending_one : (xs ys : List Item) → Ascend xs → Ascend ys → ((item : Item) → has_item xs item ≡ has_item ys item) → xs ≡ ys
ascending_one xs ys up upwards same =
    btree_set_from_contains items_total (record { keys = xs }) (record { keys = ys }) up upwards same exact_items

-- and no other list of the same items is
pub in_order-only : (items others : List Item) → AreDistinct items → IsInOrder others → ((item : Item) → Contains others item ↔ Contains items item)
    → others ≡ in_order items
in_order-only items others apart ordered same =
    ascending_one others (in_order items) (Ascend-from_IsInOrder others ordered) (in_order-ascends items apart)
    (λ item. same_has others items same item ∙ sym (has-in_order items item))

-- the order is of the items alone, however they are listed
pub in_order-same : (items others : List Item) → AreDistinct items → AreDistinct others → ((item : Item) → Contains others item ↔ Contains items item)
    → in_order others ≡ in_order items
in_order-same items others apart apart' same =
    ascending_one (in_order others) (in_order items) (in_order-ascends others apart') (in_order-ascends items apart)
    (λ item. has-in_order others item ∙ same_has others items same item ∙ sym (has-in_order items item))
