-- A text to which rows are added.
use Rattle.std.proofs.Common.{◌≡◌, ◌<◌, ◌≤◌, ℕ, ◌+◌, List, [], ◌∷◌, ◌++◌, map, flat_map, length, get_or, drop, sym, ap, subst, ◌∙◌, append_assoc, append-nil}
use Rattle.std.specs.Prelude.{All}
use Rattle.std.specs.List.{join_with_byte}
use Rattle.std.proofs.lemmas.List.{drop_all}
use Rattle.std.proofs.lemmas.List.Elements.{All-cons, All-nil}
use Rattle.ranked_list.specs.declared.row.Row.{Row}
use Rattle.page_json.specs.Bodies.{Fits}
use Rattle.page_json.specs.Texts.{row_text}
use Rattle.page_json.proofs.Loops.{from_here}

-- rows that follow another one, each behind a comma
abbrev pub following : List Row → List ℕ
following rows = flat_map (λ row. 44 ∷ row_text row) rows

joined : (row : Row) (rows : List Row) → join_with_byte 44 (map row_text (row ∷ rows)) ≡ row_text row ++ following rows
joined row [] = sym (append-nil (row_text row))
joined row (next ∷ rows) = ap (λ rest. row_text row ++ (44 ∷ rest)) (joined next rows)

-- the rows from a place on are still to be written, and once they fit all fit
abbrev pub IsLeft : List ℕ → List ℕ → List Row → ℕ → Type 0
IsLeft text whole rows place = (text ++ following (drop place rows) ≡ whole) × (All Fits (drop place rows) → All Fits rows)

pub one_less : (text whole : List ℕ) (rows : List Row) (i : ℕ) (row blank : Row) → i < length rows → row ≡ get_or rows i blank → Fits row
    → IsLeft text whole rows i → IsLeft ((text ++ 44 ∷ []) ++ row_text row) whole rows (i + 1)
one_less text whole rows i row blank below here fits so =
    let e : drop i rows ≡ row ∷ drop (i + 1) rows = from_here rows i row blank below here in
    let rest = following (drop (i + 1) rows) in (
      append_assoc (text ++ 44 ∷ []) (row_text row) rest ∙ append_assoc text (44 ∷ []) (row_text row ++ rest) ∙ sym (ap (λ left. text ++ following left) e) ∙ so.0,
      λ fit. so.1 (subst (All Fits) (sym e) (All-cons Fits row (drop (i + 1) rows) fits fit)),
    )

pub none_left : (text whole : List ℕ) (rows : List Row) (i : ℕ) → length rows ≤ i → IsLeft text whole rows i → (text ≡ whole) × All Fits rows
none_left text whole rows i past so =
    let e : drop i rows ≡ [] = drop_all i rows past in
    (sym (append-nil text) ∙ sym (ap (λ left. text ++ following left) e) ∙ so.0, so.1 (subst (All Fits) (sym e) (All-nil Fits)))

-- behind the first row the others are left
pub first_put : (text : List ℕ) (rows others : List Row) (row : Row) → rows ≡ row ∷ others
    → IsLeft (text ++ row_text row) (text ++ join_with_byte 44 (map row_text rows)) others 0
first_put text rows others row is =
    (append_assoc text (row_text row) (following others) ∙ ap (λ rest. text ++ rest) (sym (joined row others)) ∙ ap (λ all. text ++ join_with_byte 44 (map row_text all)) (sym is), λ fit. fit)
