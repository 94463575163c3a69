-- The first k of items: exactly one list is so.
use Rattle.std.proofs.Common.{◌≡◌, ℕ, zero, suc, Bool, true, false, not, ◌&&◌, ◌||◌, min, List, [], ◌∷◌, ◌++◌, length, take, refl, sym, ap, ◌∙◌, subst, inl, inr, arith}
use Rattle.std.specs.declared.cmp.Ordering.TheVariants.{Less, Equal, Greater}
use Rattle.std.specs.Ordering.{is_eq}
use Rattle.std.specs.List.{AllByRecursion, filter, Contains}
use Rattle.std.specs.BTreeMap.{is_at}
use Rattle.std.specs.Cmp.{tied_itself, eq_by_cmp_equiv}
use Rattle.std.proofs.lemmas.Bool.{false≢true, or_cases, or_right, false_from_ne_true}
use Rattle.std.proofs.lemmas.Map.Views.{tells_apart, All-from_any, any-filter_same}
use Rattle.std.proofs.lemmas.List.{length-take}
use Rattle.std.proofs.lemmas.List.Elements.{All-contains, recursion_from_All}
use Rattle.std.proofs.lemmas.List.Folds.{list_any-append}
use Rattle.std.proofs.lemmas.List.Kept.{IsStrictlySortedBy-filter}
use Rattle.std.proofs.lemmas.Map.Keys.{sorted_head, sorted_tail}
use Rattle.ranked_list.specs.declared.item.Item.{Item}
use Rattle.topk_theory.specs.Order.{item_cmp, AreDistinct, in_order, first_k, IsFirstK}
use Rattle.topk_theory.proofs.OrderLaws.{items_total, exact_items, before_from_less, IsBefore-asymmetric}
use Rattle.topk_theory.proofs.SortedKeys.{less_from_greater}
use Rattle.topk_theory.proofs.InOrder.{has_item, Ascend, Ascend-nil, Ascend-cons, has_from_Contains, Contains-from_has, in_order-ascends, has-in_order, length-in_order, IsInOrder-from_Ascend, Ascend-from_IsInOrder, ascending_one}

-- ---- the first k in order are the first k
AllByRecursion-take : (P : Item → Type 0) (k : ℕ) (items : List Item) → AllByRecursion P items → AllByRecursion P (take k items)
AllByRecursion-take P zero items all = tt
AllByRecursion-take P (suc k) [] all = tt
AllByRecursion-take P (suc k) (item ∷ rest) all = (all.0, AllByRecursion-take P k rest all.1)

pub Ascend-take : (k : ℕ) (items : List Item) → Ascend items → Ascend (take k items)
Ascend-take zero items up = Ascend-nil
Ascend-take (suc k) [] up = Ascend-nil
Ascend-take (suc k) (item ∷ rest) up =
    Ascend-cons item (take k rest) (AllByRecursion-take (λ other. item_cmp item other ≡ Less) k rest (sorted_head item_cmp item rest up))
    (Ascend-take k rest (sorted_tail item_cmp item rest up))

has-take : (k : ℕ) (items : List Item) (item : Item) → has_item (take k items) item ≡ true → has_item items item ≡ true
has-take zero items item h = absurd (false≢true h)
has-take (suc k) [] item h = absurd (false≢true h)
has-take (suc k) (first ∷ rest) item h =
    elim (is_at (item_cmp item) first) as (λ b. (b || has_item (take k rest) item) ≡ true → (b || has_item rest item) ≡ true) [
      | true ↦ λ _. refl
      | false ↦ has-take k rest item
    ] h

-- what is before each of some items is before one that is among them
less_of_member : (first : Item) (rest : List Item) (item : Item) → AllByRecursion (λ other. item_cmp first other ≡ Less) rest → has_item rest item ≡ true
    → item_cmp first item ≡ Less
less_of_member first [] item all there = absurd (false≢true there)
less_of_member first (next ∷ rest) item all there =
    elim (or_cases (is_at (item_cmp item) next) (has_item rest item) there) [
      | inl same ↦ subst (λ (i : Item). item_cmp first i ≡ Less) (sym (tells_apart exact_items item next same)) all.0
      | inr later ↦ less_of_member first rest item all.1 later
    ]

after_step : (first : Item) (taken rest : List Item) (inside outside : Item) → AllByRecursion (λ other. item_cmp first other ≡ Less) rest
    → (has_item taken inside ≡ true → item_cmp inside outside ≡ Less) → has_item (first ∷ taken) inside ≡ true → has_item rest outside ≡ true
    → item_cmp inside outside ≡ Less
after_step first taken rest inside outside above later within there =
    elim (or_cases (is_at (item_cmp inside) first) (has_item taken inside) within) [
      | inl same ↦
          subst (λ (i : Item). item_cmp i outside ≡ Less) (sym (tells_apart exact_items inside first same))
          (less_of_member first rest outside above there)
      | inr among ↦ later among
    ]

-- of ascending items, what is not among the first k is after each of them
after_taken : (k : ℕ) (items : List Item) (inside outside : Item) → Ascend items → has_item (take k items) inside ≡ true → has_item items outside ≡ true
    → has_item (take k items) outside ≡ false → item_cmp inside outside ≡ Less
after_taken zero items inside outside up within there beyond = absurd (false≢true within)
after_taken (suc k) [] inside outside up within there beyond = absurd (false≢true within)
after_taken (suc k) (first ∷ rest) inside outside up within there beyond =
    elim (is_at (item_cmp outside) first) as (λ b. (b || has_item rest outside) ≡ true → (b || has_item (take k rest) outside) ≡ false → item_cmp inside outside ≡ Less) [
      | true ↦ λ _ out. absurd (false≢true (sym out))
      | false ↦ λ later out.
          after_step first (take k rest) rest inside outside (sorted_head item_cmp first rest up)
          (λ among. after_taken k rest inside outside (sorted_tail item_cmp first rest up) among later out) within later
    ] there beyond

-- the first k in order are the first k
pub first_k-is : (k : ℕ) (items : List Item) → AreDistinct items → IsFirstK k items (first_k k items)
first_k-is k items apart =
    let up = in_order-ascends items apart in
    record {
      ordered = IsInOrder-from_Ascend (first_k k items) (Ascend-take k (in_order items) up);
      size = length-take k (in_order items) ∙ ap (min k) (length-in_order items);
      held =
          All-from_any (eq_by_cmp_equiv items_total) (Contains items) (first_k k items)
          (λ item among. Contains-from_has items item (sym (has-in_order items item) ∙ has-take k (in_order items) item among));
      none_ahead = λ inside outside within there beyond before.
          IsBefore-asymmetric outside inside before
          (before_from_less inside outside
          (after_taken k (in_order items) inside outside up (has_from_Contains (first_k k items) inside within)
          (has-in_order items outside ∙ has_from_Contains items outside there)
          (false_from_ne_true (has_item (first_k k items) outside) (λ among. beyond (Contains-from_has (first_k k items) outside among)))));
    }

-- ---- and no other list is
AllByRecursion-append : (P : Item → Type 0) (xs ys : List Item) → AllByRecursion P xs → AllByRecursion P ys → AllByRecursion P (xs ++ ys)
AllByRecursion-append P [] ys left right = right
AllByRecursion-append P (x ∷ xs) ys left right = (left.0, AllByRecursion-append P xs ys left.1 right)

Ascend-append : (xs ys : List Item) → Ascend xs → Ascend ys → ((a b : Item) → has_item xs a ≡ true → has_item ys b ≡ true → item_cmp a b ≡ Less)
    → Ascend (xs ++ ys)
Ascend-append [] ys left right across = right
Ascend-append (x ∷ xs) ys left right across =
    let itself : has_item (x ∷ xs) x ≡ true = ap (λ r. is_eq r || has_item xs x) (tied_itself items_total x) in
    let after : AllByRecursion (λ other. item_cmp x other ≡ Less) ys = recursion_from_All (λ other. item_cmp x other ≡ Less) ys (All-from_any (eq_by_cmp_equiv items_total) (λ other. item_cmp x other ≡ Less) ys (λ b there. across x b itself there)) in
    Ascend-cons x (xs ++ ys) (AllByRecursion-append (λ other. item_cmp x other ≡ Less) xs ys (sorted_head item_cmp x xs left) after)
    (Ascend-append xs ys (sorted_tail item_cmp x xs left) right
    (λ a b there. across a b (or_right (is_at (item_cmp a) x) (has_item xs a) there)))

take-front : (k : ℕ) (xs ys : List Item) → length xs ≡ min k (length (xs ++ ys)) → take k (xs ++ ys) ≡ xs
take-front zero [] ys size = refl
take-front (suc k) [] [] size = refl
take-front (suc k) [] (y ∷ ys) size = absurd (omega arith)
take-front zero (x ∷ xs) ys size = absurd (omega arith)
take-front (suc k) (x ∷ xs) ys size = ap (λ (zs : List Item). x ∷ zs) (take-front k xs ys (omega arith))

-- the items that are not among some of them
others_of : List Item → List Item → List Item
others_of some items = filter (λ item. not (has_item some item)) items

has-others_of : (some items : List Item) (item : Item) → has_item (others_of some items) item ≡ (not (has_item some item) && has_item items item)
unfolding others_of
has-others_of some items item =
    any-filter_same (is_at (item_cmp item)) (λ other. not (has_item some other)) (not (has_item some item))
    (λ other same. ap (λ (i : Item). not (has_item some i)) (sym (tells_apart exact_items item other same))) items

join_part : (part whole : Bool) → (part ≡ true → whole ≡ true) → (part || (not part && whole)) ≡ whole
join_part true whole inside = sym (inside refl)
join_part false whole inside = refl

others_parts : (part whole : Bool) → (not part && whole) ≡ true → (part ≡ false) × (whole ≡ true)
others_parts true whole e = absurd (false≢true e)
others_parts false whole e = (refl, e)

-- exactly one list is the first k
pub first_k-only : (k : ℕ) (items first : List Item) → AreDistinct items → IsFirstK k items first → first ≡ first_k k items
unfolding others_of
first_k-only k items first apart is =
    let others = others_of first (in_order items) in
    let inside : (item : Item) → has_item first item ≡ true → has_item (in_order items) item ≡ true =
    λ item among. has-in_order items item ∙ has_from_Contains items item (All-contains (Contains items) first item is.held (Contains-from_has first item among)) in
    let across : (a b : Item) → has_item first a ≡ true → has_item others b ≡ true → item_cmp a b ≡ Less = λ a b among there.
    let outside = others_parts (has_item first b) (has_item (in_order items) b) (sym (has-others_of first (in_order items) b) ∙ there) in
    elim (item_cmp a b) as (λ r. item_cmp a b ≡ r → r ≡ Less) [
      | Less ↦ λ _. refl
      | Equal ↦ λ e. absurd (false≢true (sym outside.0 ∙ ap (has_item first) (sym (exact_items a b e)) ∙ among))
      | Greater ↦ λ e.
          absurd (is.none_ahead a b (Contains-from_has first a among) (Contains-from_has items b (sym (has-in_order items b) ∙ outside.1))
          (λ among'. false≢true (sym outside.0 ∙ has_from_Contains first b among'))
          (before_from_less b a (less_from_greater items_total a b e)))
    ] refl in
    let up : Ascend (first ++ others) =
    Ascend-append first others (Ascend-from_IsInOrder first is.ordered)
    (IsStrictlySortedBy-filter item_cmp (λ item. not (has_item first item)) (in_order items) (in_order-ascends items apart)) across in
    let whole : first ++ others ≡ in_order items =
    ascending_one (first ++ others) (in_order items) up (in_order-ascends items apart)
    (λ item. list_any-append (is_at (item_cmp item)) first others ∙ ap (λ b. has_item first item || b) (has-others_of first (in_order items) item)
    ∙ join_part (has_item first item) (has_item (in_order items) item) (inside item)) in
    let size : length first ≡ min k (length (first ++ others)) =
    is.size ∙ ap (min k) (sym (length-in_order items)) ∙ ap (λ (zs : List Item). min k (length zs)) (sym whole) in
    sym (ap (take k) (sym whole) ∙ take-front k first others size)
