-- Ranked lists, one row more and one row after another.
use Rattle.std.proofs.Common.{◌≡◌, ◌≢◌, ◌<◌, ◌≤◌, ◌-◌, ℕ, suc, true, false, eqb, List, [], ◌∷◌, ◌++◌, length, get_or, Option, Some, None, refl, sym, ap, ◌∙◌, subst, ⊎_elim, arith, ne_eqb, leb, le-leb, leb-true, length-append, le_refl}
use Rattle.std.specs.Prelude.{nat_eq}
use Rattle.std.specs.List.{AllPairs, IsDistinct}
use Rattle.std.specs.Set.{is_member}
use Rattle.std.proofs.lemmas.List.{length-map, get_or-map, get_or_append_left, get_or_at, get_or_default}
use Rattle.std.proofs.lemmas.List.Elements.{All-push}
use Rattle.std.proofs.lemmas.List.Quantifiers.{all_pairs_push}
use Rattle.std.proofs.lemmas.Bool.{and_parts, and_from, both_ways, false_from_ne_true, cases_order}
use Rattle.std.proofs.lemmas.Option.{same_Some}
use Rattle.std.proofs.lemmas.Map.Keys.{IsDistinct-from_apart}
use Rattle.ranked_list.specs.declared.row.Row.{Row}
use Rattle.ranked_list.specs.Table.{IsRanked, objects, top_grade}
use Rattle.ranked_list.specs.Rows.{last_row, in_order}
use Rattle.ranked_list.proofs.Members.{member_at, contains_from_member}

abbrev pub Apart : Row → Row → Type 0
Apart above below = above.object ≢ below.object

abbrev pub Falls : Row → Row → Type 0
Falls above below = below.grade ≤ above.grade

abbrev pub Capped : Row → Type 0
Capped row = row.grade ≤ top_grade

-- any row, where one is wanted past the end
abbrev pub no_row : Row
no_row = record { object = 0; grade = 0 }

pub length-objects : (rows : List Row) → length (objects rows) ≡ length rows
length-objects rows = length-map rows (λ row. row.object)

pub object_at : (rows : List Row) (k d : ℕ) → k < length rows → get_or (objects rows) k d ≡ (get_or rows k no_row).object
object_at rows k d l = get_or-map (λ row. row.object) rows k no_row d l

pub has_object : (rows : List Row) (k : ℕ) (d : Row) → k < length rows → is_member nat_eq (objects rows) (get_or rows k d).object ≡ true
has_object rows k d l =
    subst (λ o. is_member nat_eq (objects rows) o ≡ true) (object_at rows k 0 l ∙ ap (λ row. row.object) (get_or_default rows k no_row d l))
    (member_at (objects rows) k 0 (omega (arith, length-objects rows)))

-- the objects of a ranked list differ
pub distinct_objects : (rows : List Row) → IsRanked rows → IsDistinct eqb (objects rows)
distinct_objects rows ranked =
    IsDistinct-from_apart eqb (objects rows) (λ i j d l m.
    let in_rows : j < length rows = omega (arith, length-objects rows) in
    let at_i = object_at rows i d (omega arith) in
    let at_j = object_at rows j d in_rows in
    ne_eqb _ _ (λ e. ranked.distinct i j no_row l in_rows (sym at_i ∙ e ∙ at_j)))

-- the last row stands at the last place
pub last_row_at : (rows : List Row) (d : Row) → 0 < length rows → last_row rows ≡ Some (get_or rows (length rows - 1) d)
last_row_at [] d some = absurd (omega arith)
last_row_at (row ∷ []) d some = refl
last_row_at (row ∷ next ∷ rows) d some =
    let e : suc (length (next ∷ rows) - 1) ≡ length (row ∷ next ∷ rows) - 1 = omega arith in
    last_row_at (next ∷ rows) d (omega arith) ∙ ap (λ k. Some (get_or (row ∷ next ∷ rows) k d)) e

-- what the order of a row says
pub order_cap : (o : Option Row) (row : Row) → in_order o row ≡ true → Capped row
order_cap None row h = leb-true _ _ h
order_cap (Some above) row h = leb-true _ _ (and_parts (leb row.grade top_grade) (leb row.grade above.grade) h).0

pub order_below : (above row : Row) → in_order (Some above) row ≡ true → Falls above row
order_below above row h = leb-true _ _ (and_parts (leb row.grade top_grade) (leb row.grade above.grade) h).1

pub order_from : (o : Option Row) (row : Row) → Capped row → ((above : Row) → o ≡ Some above → Falls above row) → in_order o row ≡ true
order_from None row cap falls = le-leb _ _ cap
order_from (Some above) row cap falls = and_from (leb row.grade top_grade) (leb row.grade above.grade) (le-leb _ _ cap) (le-leb _ _ (falls above refl))

-- each row stands no lower than the last
above_last : (rows : List Row) (k : ℕ) (d last : Row) → AllPairs Falls rows → k < length rows → last_row rows ≡ Some last → Falls (get_or rows k d) last
above_last rows k d last falling l is =
    let at : get_or rows (length rows - 1) d ≡ last = same_Some _ _ (sym (last_row_at rows d (omega arith)) ∙ is) in
    subst (Falls (get_or rows k d)) at
    (⊎_elim
    (λ same. subst (λ j. Falls (get_or rows k d) (get_or rows j d)) same (le_refl (get_or rows k d).grade))
    (λ order. ⊎_elim (λ before. falling k (length rows - 1) d before (omega arith)) (λ after. absurd (omega arith)) order)
    (cases_order k (length rows - 1)))

pub IsRanked-nil : IsRanked []
IsRanked-nil = record {
  distinct = λ i j d l m. absurd (omega arith);
  falling = λ i j d l m. absurd (omega arith);
  capped = λ k d l. absurd (omega arith);
}

-- a row in order, whose object is new, makes a ranked list longer
pub IsRanked-push : (rows : List Row) (row : Row) → IsRanked rows → in_order (last_row rows) row ≡ true → is_member nat_eq (objects rows) row.object ≡ false
    → IsRanked (rows ++ row ∷ [])
IsRanked-push rows row ranked order new = record {
  distinct = all_pairs_push Apart rows row ranked.distinct (λ k d l e. both_ways _ new (subst (λ o. is_member nat_eq (objects rows) o ≡ true) e (has_object rows k d l)));
  falling = all_pairs_push Falls rows row ranked.falling (λ k d l. below_all k d l (last_row rows) refl);
  capped = All-push Capped rows row ranked.capped (order_cap (last_row rows) row order);
}
  where
    below_all : (k : ℕ) (d : Row) → k < length rows → (o : Option Row) → last_row rows ≡ o → Falls (get_or rows k d) row
    below_all k d l None e = absurd (let some = last_row_at rows d (omega arith) in cc)
    below_all k d l (Some last) e =
        let one = above_last rows k d last ranked.falling l e in
        let two = order_below last row (ap (λ o. in_order o row) (sym e) ∙ order) in
        omega arith

-- ---- a row in the middle of a ranked list

some_from_last : (rows : List Row) (above : Row) → last_row rows ≡ Some above → 0 < length rows
some_from_last [] above is = absurd cc
some_from_last (first ∷ rest) above is = omega arith

middle : (rows : List Row) (row : Row) (below : List Row) → length rows < length (rows ++ row ∷ below)
middle rows row below = omega (arith, length-append rows (row ∷ below))

middle_at : (rows : List Row) (row : Row) (below : List Row) → get_or (rows ++ row ∷ below) (length rows) no_row ≡ row
middle_at rows row below = get_or_at rows row below no_row (length rows) refl

-- it is in order under the rows above it
pub next_in_order : (rows : List Row) (row : Row) (below : List Row) → IsRanked (rows ++ row ∷ below) → in_order (last_row rows) row ≡ true
next_in_order rows row below ranked =
    order_from (last_row rows) row (subst Capped (middle_at rows row below) (ranked.capped (length rows) no_row (middle rows row below))) (λ above is.
    let some : 0 < length rows = some_from_last rows above is in
    let last : get_or rows (length rows - 1) no_row ≡ above = same_Some _ _ (sym (last_row_at rows no_row some) ∙ is) in
    let falls = ranked.falling (length rows - 1) (length rows) no_row (omega arith) (middle rows row below) in
    subst (λ r. Falls above r) (middle_at rows row below)
    (subst (λ r. Falls r (get_or (rows ++ row ∷ below) (length rows) no_row)) (get_or_append_left rows (row ∷ below) no_row (length rows - 1) (omega arith) ∙ last) falls))

-- its object is none of theirs
pub next_is_new : (rows : List Row) (row : Row) (below : List Row) → IsRanked (rows ++ row ∷ below) → is_member nat_eq (objects rows) row.object ≡ false
next_is_new rows row below ranked =
    false_from_ne_true _ (λ has.
    let at = contains_from_member (objects rows) row.object has in
    let before : at.0 < length rows = omega (arith, at.1, length-objects rows) in
    let same : (get_or rows at.0 no_row).object ≡ row.object = sym (object_at rows at.0 row.object before) ∙ at.2 in
    ranked.distinct at.0 (length rows) no_row before (middle rows row below)
    (ap (λ r. r.object) (get_or_append_left rows (row ∷ below) no_row at.0 before) ∙ same ∙ ap (λ r. r.object) (sym (middle_at rows row below))))

-- and it is one of the list's
pub next_has : (rows : List Row) (row : Row) (below : List Row) → is_member nat_eq (objects (rows ++ row ∷ below)) row.object ≡ true
next_has rows row below =
    subst (λ r. is_member nat_eq (objects (rows ++ row ∷ below)) r.object ≡ true) (middle_at rows row below)
    (has_object (rows ++ row ∷ below) (length rows) no_row (middle rows row below))
