-- Loops over the values of a page.
use Rattle.std.proofs.Common.{◌≡◌, ◌<◌, ◌≤◌, ℕ, suc, ◌+◌, List, [], ◌∷◌, ◌++◌, length, get_or, drop, Option, Some, None, option_map, option_and_then, refl, sym, ap, ◌∙◌, append_assoc, append-nil, rules, true, false, nat_le, drop-cons, add-one}
use Rattle.std.proofs.lemmas.List.{drop_all}
use Rattle.topk_base.specs.declared.TheConstants.{MAX_PAGE}
use Rattle.serde_json.specs.Events.{items_len}
use Rattle.serde_json.proofs.Views.{items_len-items_view}
use Rattle.ranked_list.specs.declared.row.Row.{Row}
use Rattle.serde_json.specs.View.{view, items_view}
use Rattle.serde_json.specs.declared.value.Value.{Value}
use Rattle.page_json.specs.Bodies.{row_of, pair_of, rows_of, few}
use Rattle.page_json.specs.Going.{AreRead}

-- what stands from a place on is the item there and what stands behind it
pub from_here : {A : Type 0} (xs : List A) (i : ℕ) (x d : A) → i < length xs → x ≡ get_or xs i d → drop i xs ≡ x ∷ drop (i + 1) xs
from_here xs i x d below is = drop-cons xs i d below ∙ ap (λ y. y ∷ drop (suc i) xs) (sym is) ∙ ap (λ n. x ∷ drop n xs) (sym (add-one i))

prepended : (rows : List Row) (row : Row) (more : Option (List Row)) → option_map (λ later. (rows ++ row ∷ []) ++ later) more ≡ option_map (λ later. rows ++ later) (option_map (λ later. row ∷ later) more)
prepended rows row None = refl
prepended rows row (Some more) = ap Some (append_assoc rows (row ∷ []) more)

pub read_more : (rows : List Row) (values : List Value) (i : ℕ) (value : Value) (row : Row) → i < length values → value ≡ get_or values i value → Some row ≡ row_of (view value)
    → AreRead rows values i → AreRead (rows ++ row ∷ []) values (i + 1)
read_more rows values i value row below here is so =
    let e : drop i values ≡ value ∷ drop (i + 1) values = from_here values i value value below here in
    prepended rows row (rows_of (items_view (drop (i + 1) values)))
    ∙ ap (λ first. option_map (λ later. rows ++ later) (option_and_then (λ r. option_map (λ later. r ∷ later) (rows_of (items_view (drop (i + 1) values)))) first)) is
    ∙ ap (λ rest. option_map (λ later. rows ++ later) (rows_of (items_view rest))) (sym e) ∙ so

pub read_stops : (rows : List Row) (values : List Value) (i : ℕ) (value : Value) → i < length values → value ≡ get_or values i value → None ≡ row_of (view value)
    → AreRead rows values i → rows_of (items_view values) ≡ None
read_stops rows values i value below here is so =
    let e : drop i values ≡ value ∷ drop (i + 1) values = from_here values i value value below here in
    let f : option_map (λ later. rows ++ later) (rows_of (items_view (drop i values))) ≡ None = rw (e, sym is) in
    sym so ∙ f

nothing_first : (more : Option (List Row)) → option_map (λ later. [] ++ later) more ≡ more
nothing_first None = refl
nothing_first (Some more) = refl

pub read_start : (rows : List Row) (values : List Value) → rows ≡ [] → AreRead rows values 0
read_start rows values none = ap (λ first. option_map (λ later. first ++ later) (rows_of (items_view values))) none ∙ nothing_first (rows_of (items_view values))

pub read_end : (rows : List Row) (values : List Value) (i : ℕ) → length values ≤ i → AreRead rows values i → rows_of (items_view values) ≡ Some rows
read_end rows values i past so =
    let e : drop i values ≡ [] = drop_all i values past in
    sym so ∙ ap (λ rest. option_map (λ later. rows ++ later) (rows_of (items_view rest))) e ∙ ap Some (append-nil rows)

-- other than two are no row
pub not_two : (values : List Value) → (length values ≡ 2 → ⊥) → None ≡ pair_of (items_view values)
not_two [] other = refl
not_two (first ∷ []) other = refl
not_two (first ∷ second ∷ []) other = absurd (other refl)
not_two (first ∷ second ∷ third ∷ values) other = refl

-- more than 10,000 are no page
pub too_many : (values : List Value) → MAX_PAGE < length values → option_and_then rows_of (few (items_view values)) ≡ None
too_many values more = let e : nat_le (items_len (items_view values)) MAX_PAGE ≡ false = rw (items_len-items_view values) (search (rules, more)) in rw e

pub not_too_many : (values : List Value) → length values ≤ MAX_PAGE → option_and_then rows_of (few (items_view values)) ≡ rows_of (items_view values)
not_too_many values small = let e : nat_le (items_len (items_view values)) MAX_PAGE ≡ true = rw (items_len-items_view values) (search (rules, small)) in rw e
