-- Rows put in the order of a ranked list: what a sort by grade falling and then by number rising gives of rows of different objects.
use Rattle.std.proofs.Common.{◌≡◌, ◌≢◌, ℕ, ◌+◌, inl, inr, true, false, cond, ◌==◌, nat_lt, List, [], ◌∷◌, length, map, get_or, AllPairs, refl, sym, ap, ap₂, ◌∙◌, arith}
use Rattle.std.specs.List.Sorted.{IsPermutation, IsSortedBy}
use Rattle.std.specs.declared.cmp.Ordering.{Ordering}
use Rattle.std.specs.declared.cmp.Reverse.{Reverse}
use Rattle.std.specs.declared.cmp.Ordering.TheVariants.{Less, Equal, Greater}
use Rattle.std.specs.Ordering.{nat_cmp, is_lt, ordering_then}
use Rattle.std.proofs.lemmas.Bool.{cases_Bool, cases_order, cond-true, cond-false, lt-ltb, le-ltb, ne_eqb, eq-eqb}
use Rattle.std.proofs.lemmas.List.{get_or-map, length-map}
use Rattle.std.proofs.lemmas.List.Sorted.{IsPermutation-map}
use Rattle.ranked_list.specs.declared.row.Row.{Row}
use Rattle.ranked_list.specs.declared.item.Item.{Item}
use Rattle.topk_theory.specs.Order.{item_cmp, is_before, AreDistinct, in_order, with_placed}
use Rattle.topk_theory.specs.Adversary.{is_above, put_row, by_grade}
use Rattle.topk_theory.proofs.ConsistentRows.{put_here, put_later}
use Rattle.topk_theory.proofs.SortedItems.{sorted_in_order}

-- a row as an item whose bounds are both its grade, and back
abbrev item_of : Row → Item
item_of row = record { object = row.object; low = row.grade; high = row.grade }

abbrev row_of_item : Item → Row
row_of_item item = record { object = item.object; grade = item.low }

item_before : (a b : Row) → is_before (item_of a) (item_of b) ≡ is_above a b
item_before a b =
    elim (cases_order a.grade b.grade) [
      | inl same ↦
          let level : nat_lt b.grade a.grade ≡ false = le-ltb b.grade a.grade (omega arith) in
          let tie : (b.grade == a.grade) ≡ true = eq-eqb b.grade a.grade (sym same) in
          let tied : (a.grade == b.grade) ≡ true = eq-eqb a.grade b.grade same in
          simp (level, tie, tied) (lesser_object a.object b.object)
      | inr r ↦ elim r [
        | inl l ↦
            let below : nat_lt b.grade a.grade ≡ false = le-ltb b.grade a.grade (omega arith) in
            let other : (b.grade == a.grade) ≡ false = ne_eqb b.grade a.grade (omega arith) in
            let others : (a.grade == b.grade) ≡ false = ne_eqb a.grade b.grade (omega arith) in
            simp (below, other, others)
        | inr g ↦ let above : nat_lt b.grade a.grade ≡ true = lt-ltb b.grade a.grade g in simp above
      ]
    ]
  where
    lesser_object : (x y : ℕ) → is_lt (nat_cmp x y) ≡ nat_lt x y
    lesser_object x y =
        elim (nat_lt x y) as (λ b. is_lt (cond b Less (cond (x == y) Equal Greater)) ≡ b) [
          | true ↦ refl
          | false ↦ elim (x == y) as (λ b. is_lt (cond b Equal Greater) ≡ false) [ true ↦ refl | false ↦ refl ]
        ]

placed_row : (row : Row) (rows : List Row) → with_placed (item_of row) (map item_of rows) ≡ map item_of (put_row row rows)
placed_row row [] = refl
placed_row row (other ∷ rows) =
    elim (cases_Bool (is_above row other)) [
      | inl t ↦
          cond-true (is_before (item_of row) (item_of other)) (item_of row ∷ item_of other ∷ map item_of rows) (item_of other ∷ with_placed (item_of row) (map item_of rows)) (item_before row other ∙ t)
          ∙ sym (ap (map item_of) (put_here row other rows t))
      | inr f ↦
          cond-false (is_before (item_of row) (item_of other)) (item_of row ∷ item_of other ∷ map item_of rows) (item_of other ∷ with_placed (item_of row) (map item_of rows)) (item_before row other ∙ f)
          ∙ ap (λ s. item_of other ∷ s) (placed_row row rows) ∙ sym (ap (map item_of) (put_later row other rows f))
    ]

rows_in_order : (rows : List Row) → in_order (map item_of rows) ≡ map item_of (by_grade rows)
rows_in_order [] = refl
rows_in_order (row ∷ rows) = ap (with_placed (item_of row)) (rows_in_order rows) ∙ placed_row row (by_grade rows)

back : (rows : List Row) → map row_of_item (map item_of rows) ≡ rows
back [] = refl
back (row ∷ rows) = ap (λ s. row ∷ s) (back rows)

-- how a sort compares rows: by grade falling, then by number rising
abbrev pub row_cmp : Row → Row → Ordering
row_cmp a b = ordering_then (nat_cmp b.grade a.grade) (nat_cmp a.object b.object)

doubled : (first second : Ordering) → is_lt (ordering_then (ordering_then first first) second) ≡ is_lt (ordering_then first second)
doubled Less second = refl
doubled Equal second = refl
doubled Greater second = refl

pub sorted_rows_are : (rows sorted : List Row) → AllPairs (λ (one : Row) (other : Row). one.object ≢ other.object) rows → IsPermutation rows sorted
    → IsSortedBy (λ a b. is_lt (row_cmp a b)) sorted → sorted ≡ by_grade rows
sorted_rows_are rows sorted apart moved up =
    let none : Row = record { object = 0; grade = 0 } in
    let items_apart : AreDistinct (map item_of rows) = λ i j d l m.
    let size : length (map item_of rows) ≡ length rows = length-map rows item_of in
    let here : get_or (map item_of rows) i d ≡ item_of (get_or rows i none) = get_or-map item_of rows i none d (omega arith) in
    let there : get_or (map item_of rows) j d ≡ item_of (get_or rows j none) = get_or-map item_of rows j none d (omega arith) in
    λ same. apart i j none l (omega arith) (sym (ap (λ (z : Item). z.object) here) ∙ same ∙ ap (λ (z : Item). z.object) there) in
    let items_up : IsSortedBy (λ a b. is_lt (item_cmp a b)) (map item_of sorted) = λ k d low within.
    let size : length (map item_of sorted) ≡ length sorted = length-map sorted item_of in
    let here : get_or (map item_of sorted) (k + 1) d ≡ item_of (get_or sorted (k + 1) none) = get_or-map item_of sorted (k + 1) none d (omega arith) in
    let there : get_or (map item_of sorted) k d ≡ item_of (get_or sorted k none) = get_or-map item_of sorted k none d (omega arith) in
    ap₂ (λ a b. is_lt (item_cmp a b)) here there
    ∙ doubled (nat_cmp (get_or sorted k none).grade (get_or sorted (k + 1) none).grade) (nat_cmp (get_or sorted (k + 1) none).object (get_or sorted k none).object)
    ∙ up k none low (omega arith) in
    sym (back sorted) ∙ ap (map row_of_item) (sorted_in_order (map item_of rows) (map item_of sorted) items_apart (IsPermutation-map item_of rows sorted moved) items_up ∙ rows_in_order rows) ∙ back (by_grade rows)

-- the key by which rows are sorted
abbrev pub key_of : Row → Reverse ℕ × ℕ
key_of row = (record { 0 = row.grade }, row.object)
