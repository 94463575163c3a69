-- Whether lists form a table, list by list.
use Rattle.std.proofs.Common.{◌≡◌, ◌<◌, ◌+◌, ℕ, Bool, true, false, eqb, List, [], ◌∷◌, ◌++◌, length, get_or, take, drop, Option, Some, None, Result, Ok, Err, refl, sym, ap, ◌∙◌, subst, ⊎_elim, arith, eqb-true}
use Rattle.std.specs.Prelude.{nat_eq, IfOk, IsTrue, ◌↔◌}
use Rattle.std.specs.List.{All, slice_get}
use Rattle.std.specs.Set.{is_member}
use Rattle.std.specs.Result.{is_err}
use Rattle.std.proofs.lemmas.List.{take_more, drop_more, take-append-drop}
use Rattle.std.proofs.lemmas.Option.{slice_get_within, get_or_from_slice_get}
use Rattle.std.proofs.lemmas.Bool.{both_ways, or_cases}
use Rattle.ranked_list.specs.declared.row.Row.{Row}
use Rattle.ranked_list.specs.declared.order.RowFault.{RowFault}
use Rattle.ranked_list.specs.declared.order.RowFault.TheVariants.{OutOfOrder, TooHigh}
use Rattle.ranked_list.specs.Order.{FindsOrder}
use Rattle.ranked_list.specs.Table.{IsRanked, IsTable, objects}
use Rattle.ranked_list.specs.Rows.{last_row, in_order, TellsObjects, IsAlike}
use Rattle.ranked_list.proofs.Members.{Within, all_there}
use Rattle.ranked_list.proofs.RankLaws.{next_in_order, next_is_new, next_has, distinct_objects, length-objects, order_cap, order_below, order_from}
use Rattle.ranked_list.proofs.RowLaws.{is_member-push, SameObjects, same_from_within, within_from_same}

-- ---- one row of a list

pub record IsAt (rows : List Row) (place : ℕ) (row : Row) : Type 0 where
  pub front : take (place + 1) rows ≡ take place rows ++ row ∷ []
  pub whole : rows ≡ take place rows ++ row ∷ drop (place + 1) rows

pub at_place : (rows : List Row) (place : ℕ) (row : Row) → Some row ≡ slice_get rows place → IsAt rows place row
at_place rows place row is =
    let within : place < length rows = slice_get_within rows place row (sym is) in
    let here : get_or rows place row ≡ row = get_or_from_slice_get rows place row row (sym is) in record {
      front = take_more rows place row within ∙ ap (λ r. take place rows ++ r ∷ []) here;
      whole = sym (take-append-drop place rows) ∙ ap (λ t. take place rows ++ t) (drop_more rows place row within ∙ ap (λ r. r ∷ drop (place + 1) rows) here);
    }

-- what `check_next` finds is the order
pub found_order : {T : Type 0} (place : ℕ) (last : Option Row) (row : Row) (r : Result T RowFault) → FindsOrder place last row r → is_err r ≡ false
    → in_order last row ≡ true
found_order place last row (Ok done) h e = order_from last row h.0 (λ above is. h.1 above is)
found_order place last row (Err fault) h e = absurd (both_ways _ e refl)

pub found_fault : {T : Type 0} (place : ℕ) (last : Option Row) (row : Row) (r : Result T RowFault) → FindsOrder place last row r → is_err r ≡ true
    → in_order last row ≡ true → ⊥
found_fault place last row (Ok done) h e order = both_ways _ refl e
found_fault place last row (Err (TooHigh at grade)) h e order = let cap = order_cap last row order in omega (arith, h.0)
found_fault place None row (Err (OutOfOrder at before after)) h e order = h.1
found_fault place (Some above) row (Err (OutOfOrder at before after)) h e order = let below = order_below above row order in omega (arith, h.1.0)

-- a row at fault makes the list not ranked
pub fault_of_order : (rows : List Row) (place : ℕ) (row : Row) → IsAt rows place row → (in_order (last_row (take place rows)) row ≡ true → ⊥) → IsRanked rows
    → ⊥
fault_of_order rows place row at fault ranked = fault (next_in_order (take place rows) row (drop (place + 1) rows) (subst IsRanked at.whole ranked))

pub fault_of_object : (rows : List Row) (place : ℕ) (row : Row) → IsAt rows place row → is_member nat_eq (objects (take place rows)) row.object ≡ true
    → IsRanked rows → ⊥
fault_of_object rows place row at has ranked = both_ways _ (next_is_new (take place rows) row (drop (place + 1) rows) (subst IsRanked at.whole ranked)) has

-- ---- the objects of a list among others

pub among_more : (rows : List Row) (place : ℕ) (row : Row) (test : ℕ → Bool) → IsAt rows place row
    → ((o : ℕ) → is_member nat_eq (objects (take place rows)) o ≡ true → test o ≡ true) → test row.object ≡ true
    → (o : ℕ) → is_member nat_eq (objects (take (place + 1) rows)) o ≡ true → test o ≡ true
among_more rows place row test at before here o has =
    ⊎_elim (λ e. before o e) (λ e. subst (λ x. test x ≡ true) (sym (eqb-true o row.object e)) here)
    (or_cases (is_member nat_eq (objects (take place rows)) o) (eqb o row.object) (sym (is_member-push (take place rows) row o) ∙ ap (λ rows. is_member nat_eq (objects rows) o) (sym at.front) ∙ has))

pub has_at : (rows : List Row) (place : ℕ) (row : Row) → IsAt rows place row → is_member nat_eq (objects rows) row.object ≡ true
has_at rows place row at = ap (λ rows. is_member nat_eq (objects rows) row.object) at.whole ∙ next_has (take place rows) row (drop (place + 1) rows)

-- ---- lists

-- lists that are all like the first are a table
pub table_from_alike : (lists : List (List Row)) (first : List Row) (test : ℕ → Bool) → Some first ≡ slice_get lists 0 → TellsObjects test first
    → All (IsAlike (length first) test) lists → IsTable (length first) lists
table_from_alike lists first test is tells alike = record {
  sized = λ k d l. let one = alike k d l in one.sized;
  ranked = λ k d l. let one = alike k d l in one.ranked;
  same = λ i d l j e m.
      let a = alike i d l in
      let b = alike j e m in
      let b_first : Within (objects (get_or lists j e)) (objects first) = λ o has. sym (tells o) ∙ b.within o has in
      let back = all_there (objects (get_or lists j e)) (objects first) (distinct_objects _ b.ranked) b_first (length-objects _ ∙ b.sized ∙ sym (length-objects first)) in
      same_from_within (get_or lists i d) (get_or lists j e) (λ o has. back o (sym (tells o) ∙ a.within o has));
}

-- and each list of a table is like the first
pub alike_in_table : (n : ℕ) (lists : List (List Row)) (first : List Row) (test : ℕ → Bool) → Some first ≡ slice_get lists 0 → TellsObjects test first
    → IsTable n lists
    → (k : ℕ) (d : List Row) → k < length lists → IsAlike (length first) test (get_or lists k d)
alike_in_table n lists first test is tells t k d l =
    let here : get_or lists 0 first ≡ first = get_or_from_slice_get lists 0 first first (sym is) in
    let some : 0 < length lists = omega arith in record {
      sized = t.sized k d l ∙ sym (t.sized 0 first some) ∙ ap length here;
      ranked = t.ranked k d l;
      within = λ o has. tells o ∙ within_from_same (get_or lists k d) first (subst (SameObjects (get_or lists k d)) here (t.same k d l 0 first some)) o has;
    }

pub first_ranked : (n : ℕ) (lists : List (List Row)) (first : List Row) → Some first ≡ slice_get lists 0 → IsTable n lists → IsRanked first
first_ranked n lists first is t =
    subst IsRanked (get_or_from_slice_get lists 0 first first (sym is)) (t.ranked 0 first (slice_get_within lists 0 first (sym is)))

-- so that all are like the first says that they are a table
pub told_table : {E : Type 0} (lists : List (List Row)) (first : List Row) (test : ℕ → Bool) → Some first ≡ slice_get lists 0 → TellsObjects test first
    → (told : Result Bool E) → IfOk told (λ answer. IsTrue answer ↔ All (IsAlike (length first) test) lists)
    → IfOk told (λ answer. IsTrue answer ↔ ((n : ℕ) × IsTable n lists))
told_table lists first test is tells (Err fault) told = tt
told_table lists first test is tells (Ok answer) told = (
  λ yes. (length first, table_from_alike lists first test is tells (told.0 yes)),
  λ table. told.1 (alike_in_table table.0 lists first test is tells table.1),
)
