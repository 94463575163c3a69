-- Where an object stands in a ranked list and in a table.
use Rattle.std.proofs.Common.{◌≡◌, ◌≢◌, ℕ, zero, suc, ◌<◌, inl, inr, true, false, cond, ◌==◌, List, [], ◌∷◌, length, AllPairs, Contains, slice_index_or, refl, sym, ap, ◌∙◌, arith, eqb-true}
use Rattle.std.proofs.lemmas.Bool.{cases_Bool, cases_order, eqb-false}
use Rattle.ranked_list.specs.declared.row.Row.{Row}
use Rattle.ranked_list.specs.Table.{objects, place_in, grade_in}
use Rattle.ranked_list.proofs.RankLaws.{no_row, length-objects}
use Rattle.topk_theory.proofs.AgreementLists.{contains_nil, contains_cases, contains_at, contains_map}

place_found : (row : Row) (rows : List Row) (o : ℕ) → (row.object == o) ≡ true → place_in (row ∷ rows) o ≡ 0
place_found row rows o t = ap (λ b. cond b 0 (suc (place_in rows o))) t

place_later : (row : Row) (rows : List Row) (o : ℕ) → (row.object == o) ≡ false → place_in (row ∷ rows) o ≡ suc (place_in rows o)
place_later row rows o f = ap (λ b. cond b 0 (suc (place_in rows o))) f

grade_found : (row : Row) (rows : List Row) (o : ℕ) → (row.object == o) ≡ true → grade_in (row ∷ rows) o ≡ row.grade
grade_found row rows o t = ap (λ b. cond b row.grade (grade_in rows o)) t

grade_later : (row : Row) (rows : List Row) (o : ℕ) → (row.object == o) ≡ false → grade_in (row ∷ rows) o ≡ grade_in rows o
grade_later row rows o f = ap (λ b. cond b row.grade (grade_in rows o)) f

-- an object of the list stands at a place of it
pub place_in-lt : (rows : List Row) (o : ℕ) → Contains (objects rows) o → place_in rows o < length rows
place_in-lt [] o h = absurd (contains_nil o h)
place_in-lt (row ∷ rows) o h =
    elim (cases_Bool (row.object == o)) [
      | inl t ↦ omega (arith, place_found row rows o t)
      | inr f ↦ elim (contains_cases row.object (objects rows) o h) [
        | inl e ↦ absurd (eqb-false row.object o f e)
        | inr r ↦ omega (arith, place_later row rows o f, place_in-lt rows o r)
      ]
    ]

-- the row at the place of an object: its object and its grade
pub object-at_place : (rows : List Row) (o : ℕ) (d : Row) → place_in rows o < length rows → (slice_index_or rows (place_in rows o) d).object ≡ o
object-at_place [] o d h = absurd (omega arith)
object-at_place (row ∷ rows) o d h =
    elim (cases_Bool (row.object == o)) [
      | inl t ↦ ap (λ p. (slice_index_or (row ∷ rows) p d).object) (place_found row rows o t) ∙ eqb-true row.object o t
      | inr f ↦ ap (λ p. (slice_index_or (row ∷ rows) p d).object) (place_later row rows o f) ∙ object-at_place rows o d (omega (arith, place_later row rows o f))
    ]

pub grade_in-at_place : (rows : List Row) (o : ℕ) (d : Row) → place_in rows o < length rows → grade_in rows o ≡ (slice_index_or rows (place_in rows o) d).grade
grade_in-at_place [] o d h = absurd (omega arith)
grade_in-at_place (row ∷ rows) o d h =
    elim (cases_Bool (row.object == o)) [
      | inl t ↦ grade_found row rows o t ∙ sym (ap (λ p. (slice_index_or (row ∷ rows) p d).grade) (place_found row rows o t))
      | inr f ↦ grade_later row rows o f ∙ grade_in-at_place rows o d (omega (arith, place_later row rows o f)) ∙ sym (ap (λ p. (slice_index_or (row ∷ rows) p d).grade) (place_later row rows o f))
    ]

-- the objects of a ranked list are distinct
map_object_at : (rows : List Row) (k : ℕ) (d : Row) (e : ℕ) → k < length rows → slice_index_or (objects rows) k e ≡ (slice_index_or rows k d).object
map_object_at [] k d e l = absurd (omega arith)
map_object_at (row ∷ rows) zero d e l = refl
map_object_at (row ∷ rows) (suc k) d e l = map_object_at rows k d e (omega arith)

pub distinct_objects : (rows : List Row) → AllPairs (λ (above : Row) (below : Row). above.object ≢ below.object) rows
    → AllPairs (λ (a : ℕ) (b : ℕ). a ≢ b) (objects rows)
distinct_objects rows d i j e l m =
    let n : length (objects rows) ≡ length rows = length-objects rows in
    let here : i < length rows = omega arith in
    let there : j < length rows = omega arith in
    λ same. d i j no_row l there (sym (map_object_at rows i no_row e here) ∙ same ∙ map_object_at rows j no_row e there)

-- in a list of distinct objects the object of a row stands at the row's place, and has the row's grade
pub place_in-object : (rows : List Row) (i : ℕ) (d : Row) → AllPairs (λ (above : Row) (below : Row). above.object ≢ below.object) rows → i < length rows
    → place_in rows (slice_index_or rows i d).object ≡ i
place_in-object rows i d apart l =
    let o : ℕ = (slice_index_or rows i d).object in
    let held : Contains (objects rows) o = contains_map (λ (row : Row). row.object) rows (slice_index_or rows i d) (contains_at rows i d l) in
    let p : place_in rows o < length rows = place_in-lt rows o held in
    let same : (slice_index_or rows (place_in rows o) d).object ≡ o = object-at_place rows o d p in
    same_place rows (place_in rows o) i d apart p l same
  where
    same_place : (rows : List Row) (p i : ℕ) (d : Row) → AllPairs (λ (above : Row) (below : Row). above.object ≢ below.object) rows → p < length rows
        → i < length rows → (slice_index_or rows p d).object ≡ (slice_index_or rows i d).object → p ≡ i
    same_place rows p i d apart h l same = elim (cases_order p i) [ inl e ↦ e | inr r ↦ elim r [ inl lt ↦ absurd (apart p i d lt l same) | inr gt ↦ absurd (apart i p d gt h (sym same)) ] ]
