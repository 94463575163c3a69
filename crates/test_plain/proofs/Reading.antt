-- Rows, places and grades of a list that is read from the top down.
use Rattle.std.proofs.Common.{◌≡◌, ◌≢◌, ℕ, zero, suc, ◌<◌, inl, inr, ◌==◌, List, [], ◌∷◌, length, unwrap_or, slice_get, slice_index_or, refl, ap, ◌∙◌, arith, eq-eqb, ne_eqb}
use Rattle.std.proofs.lemmas.Bool.{cases_Bool, cond-true, cond-false}
use Rattle.ranked_list.specs.declared.row.Row.{Row}
use Rattle.ranked_list.specs.Table.{place_in, grade_in}
use Rattle.test_plain.specs.Posed.{no_row}

pub unwrap_get : {X : Type 0} → (xs : List X) (i : ℕ) (d : X) → unwrap_or (slice_get xs i) d ≡ slice_index_or xs i d
unwrap_get [] i d = refl
unwrap_get (x ∷ xs) zero d = refl
unwrap_get (x ∷ xs) (suc i) d = unwrap_get xs i d

-- the first row with the object is at its place
pub place_found : (rows : List Row) (place object : ℕ) → place < length rows → (slice_index_or rows place no_row).object ≡ object
    → ((k : ℕ) → k < place → (slice_index_or rows k no_row).object ≢ object) → place_in rows object ≡ place
place_found [] place object l e h = absurd (omega arith)
place_found (row ∷ rows) zero object l e h = cond-true (row.object == object) 0 (suc (place_in rows object)) (eq-eqb row.object object e)
place_found (row ∷ rows) (suc place) object l e h =
    cond-false (row.object == object) 0 (suc (place_in rows object)) (ne_eqb row.object object (h 0 (omega arith)))
    ∙ ap suc (place_found rows place object (omega arith) e (λ k m. h (suc k) (omega arith)))

pub place_absent : (rows : List Row) (object : ℕ) → ((k : ℕ) → k < length rows → (slice_index_or rows k no_row).object ≢ object)
    → place_in rows object ≡ length rows
place_absent [] object h = refl
place_absent (row ∷ rows) object h =
    cond-false (row.object == object) 0 (suc (place_in rows object)) (ne_eqb row.object object (h 0 (omega arith)))
    ∙ ap suc (place_absent rows object (λ k m. h (suc k) (omega arith)))

pub grade_at_place : (rows : List Row) (object : ℕ) → (slice_index_or rows (place_in rows object) no_row).grade ≡ grade_in rows object
grade_at_place [] object = refl
grade_at_place (row ∷ rows) object =
    elim (cases_Bool (row.object == object)) [
      | inl t ↦ simp t
      | inr f ↦ simp f (grade_at_place rows object)
    ]
