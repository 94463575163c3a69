-- Grades by object, put together from the last row up.
use Rattle.std.proofs.Common.{◌≡◌, ℕ, zero, suc, ◌-◌, ◌<◌, ◌≤◌, ◌==◌, cond, List, [], ◌∷◌, length, drop, Some, None, slice_get, sym, ap, ◌∙◌, arith}
use Rattle.ranked_list.specs.declared.row.Row.{Row}
use Rattle.topk_theory.specs.Bounds.{grade_among}

-- the row at a place, and those below it
drop_at : (rows : List Row) (place : ℕ) (row : Row) → slice_get rows place ≡ Some row → drop place rows ≡ row ∷ drop (suc place) rows
drop_at [] place row e = absurd (cc)
drop_at (first ∷ rows) zero row e = let same : first ≡ row = cc in ap (λ r. r ∷ rows) same
drop_at (first ∷ rows) (suc place) row e = drop_at rows place row e

-- the grades from a place down are those from the next place down, but for the object of the row at the place
pub grades_more : (rows : List Row) (place : ℕ) (row : Row) (object : ℕ) → 0 < place → Some row ≡ slice_get rows (place - 1)
    → grade_among (drop (place - 1) rows) object ≡ cond (row.object == object) (Some row.grade) (grade_among (drop place rows) object)
grades_more rows zero row object l e = absurd (omega arith)
grades_more rows (suc place) row object l e =
    let same : suc place - 1 ≡ place = omega arith in
    let found : slice_get rows place ≡ Some row = ap (slice_get rows) (sym same) ∙ sym e in
    ap (λ p. grade_among (drop p rows) object) same ∙ ap (λ r. grade_among r object) (drop_at rows place row found)

-- some row is at each place above the end
pub row_there : (rows : List Row) (place : ℕ) → None ≡ slice_get rows place → length rows ≤ place
row_there [] place e = omega arith
row_there (row ∷ rows) zero e = absurd (cc)
row_there (row ∷ rows) (suc place) e = let l : length rows ≤ place = row_there rows place e in omega arith
