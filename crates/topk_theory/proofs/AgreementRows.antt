-- Rows of ranked lists and of tables.
use Rattle.std.proofs.Common.{◌≡◌, ◌≢◌, ℕ, suc, ◌<◌, inl, inr, ◌==◌, List, [], ◌∷◌, ◌++◌, length, AllPairs, Contains, Some, None, refl, sym, ap, ap₂, subst, ◌∙◌, arith, eqb-true, eq-eqb, ne_eqb}
use Rattle.std.proofs.lemmas.List.Kept.{AllPairs-cons}
use Rattle.std.proofs.lemmas.Bool.{cases_Bool, eqb-false, cond-true, cond-false}
use Rattle.ranked_list.specs.declared.row.Row.{Row}
use Rattle.ranked_list.specs.Table.{IsRanked, IsTable, objects, grade_in}
use Rattle.topk_theory.specs.Aggregate.{objects_of}
use Rattle.topk_theory.specs.Transcript.{list_at}
use Rattle.topk_theory.specs.Bounds.{grade_among}
use Rattle.topk_theory.proofs.AgreementLists.{contains_nil, contains_here, contains_there, contains_at, contains_cases, contains_map, contains_map_from, all_from_members}

-- what a ranked list says of the rows behind its first
pub ranked_tail : (row : Row) (rows : List Row) → IsRanked (row ∷ rows) → IsRanked rows
ranked_tail row rows r = record {
  distinct = λ i j d l m. r.distinct (suc i) (suc j) d (omega arith) (omega arith);
  falling = λ i j d l m. r.falling (suc i) (suc j) d (omega arith) (omega arith);
  capped = λ k d l. r.capped (suc k) d (omega arith);
}

pub ranked_head_apart : (row : Row) (rows : List Row) (other : Row) → IsRanked (row ∷ rows) → Contains rows other → row.object ≢ other.object
ranked_head_apart row rows other r h = λ e. r.distinct 0 (suc h.0) other (omega arith) (omega (arith, h.1)) (e ∙ sym (ap (λ (z : Row). z.object) h.2))

-- a row with this object and this grade
pub row_is : (row : Row) (object grade : ℕ) → row.object ≡ object → row.grade ≡ grade → row ≡ record { object = object; grade = grade }
row_is row object grade p q = ap₂ row_with p q
  where
    row_with : ℕ → ℕ → Row
    row_with o g = record { object = o; grade = g }

-- in a ranked list an object has one row, whose grade is the object's
pub grade_in_row : (rows : List Row) (object grade : ℕ) → IsRanked rows → Contains rows (record { object = object; grade = grade })
    → grade_in rows object ≡ grade
grade_in_row [] object grade r h = absurd (contains_nil _ h)
grade_in_row (row ∷ rows) object grade r h =
    elim (contains_cases row rows _ h) [
      | inl e ↦ cond-true (row.object == object) row.grade (grade_in rows object) (eq-eqb row.object object (ap (λ (z : Row). z.object) e)) ∙ ap (λ (z : Row). z.grade) e
      | inr t ↦ cond-false (row.object == object) row.grade (grade_in rows object) (ne_eqb row.object object (ranked_head_apart row rows _ r t)) ∙ grade_in_row rows object grade (ranked_tail row rows r) t
    ]

pub row_of_object : (rows : List Row) (object : ℕ) → Contains (objects rows) object → Contains rows (record { object = object; grade = grade_in rows object })
row_of_object [] object h = absurd (contains_nil object h)
row_of_object (row ∷ rows) object h =
    elim (cases_Bool (row.object == object)) [
      | inl t ↦ let same : row ≡ record { object = object; grade = grade_in (row ∷ rows) object } = row_is row object _ (eqb-true row.object object t) (sym (cond-true (row.object == object) row.grade (grade_in rows object) t)) in subst (λ z. Contains (row ∷ rows) z) same (contains_here row rows)
      | inr f ↦ let e : grade_in rows object ≡ grade_in (row ∷ rows) object = sym (cond-false (row.object == object) row.grade (grade_in rows object) f) in
          elim (contains_cases row.object (objects rows) object h) [
            | inl same ↦ absurd (eqb-false row.object object f same)
            | inr t ↦ contains_there row rows _ (subst (λ g. Contains rows (record { object = object; grade = g })) e (row_of_object rows object t))
          ]
    ]

pub object_of_row : (rows : List Row) (row : Row) → Contains rows row → Contains (objects rows) row.object
object_of_row rows row h = contains_map (λ (r : Row). r.object) rows row h

-- what the first row with an object tells
pub grade_among_row : (rows : List Row) (object grade : ℕ) → grade_among rows object ≡ Some grade → Contains rows (record { object = object; grade = grade })
grade_among_row [] object grade e = absurd (cc)
grade_among_row (row ∷ rows) object grade e =
    elim (cases_Bool (row.object == object)) [
      | inl t ↦ let first : Some row.grade ≡ Some grade = sym (cond-true (row.object == object) (Some row.grade) (grade_among rows object) t) ∙ e in
          let same : row ≡ record { object = object; grade = grade } = row_is row object grade (eqb-true row.object object t) (cc) in
          subst (λ z. Contains (row ∷ rows) z) same (contains_here row rows)
      | inr f ↦ contains_there row rows _ (grade_among_row rows object grade (sym (cond-false (row.object == object) (Some row.grade) (grade_among rows object) f) ∙ e))
    ]

pub grade_among_none : (rows : List Row) (object : ℕ) → grade_among rows object ≡ None → ¬ Contains (objects rows) object
grade_among_none [] object e = λ h. contains_nil object h
grade_among_none (row ∷ rows) object e = λ h.
    elim (cases_Bool (row.object == object)) [
      | inl t ↦ let no : Some row.grade ≡ None = sym (cond-true (row.object == object) (Some row.grade) (grade_among rows object) t) ∙ e in cc
      | inr f ↦ elim (contains_cases row.object (objects rows) object h) [
        | inl same ↦ eqb-false row.object object f same
        | inr t ↦ grade_among_none rows object (sym (cond-false (row.object == object) (Some row.grade) (grade_among rows object) f) ∙ e) t
      ]
    ]

pub grade_among_absent : (rows : List Row) (object : ℕ) → (¬ Contains (objects rows) object) → grade_among rows object ≡ None
grade_among_absent [] object n = refl
grade_among_absent (row ∷ rows) object n =
    cond-false (row.object == object) (Some row.grade) (grade_among rows object) (ne_eqb row.object object (λ e. n (subst (λ z. Contains (row.object ∷ objects rows) z) e (contains_here row.object (objects rows)))))
    ∙ grade_among_absent rows object (λ h. n (contains_there row.object (objects rows) object h))

pub grade_among_append_some : (rows more : List Row) (object grade : ℕ) → grade_among rows object ≡ Some grade → grade_among (rows ++ more) object ≡ Some grade
grade_among_append_some [] more object grade e = absurd (cc)
grade_among_append_some (row ∷ rows) more object grade e =
    elim (cases_Bool (row.object == object)) [
      | inl t ↦ cond-true (row.object == object) (Some row.grade) (grade_among (rows ++ more) object) t ∙ sym (cond-true (row.object == object) (Some row.grade) (grade_among rows object) t) ∙ e
      | inr f ↦ cond-false (row.object == object) (Some row.grade) (grade_among (rows ++ more) object) f ∙ grade_among_append_some rows more object grade (sym (cond-false (row.object == object) (Some row.grade) (grade_among rows object) f) ∙ e)
    ]

pub grade_among_append_none : (rows more : List Row) (object : ℕ) → grade_among rows object ≡ None → grade_among (rows ++ more) object ≡ grade_among more object
grade_among_append_none [] more object e = refl
grade_among_append_none (row ∷ rows) more object e =
    elim (cases_Bool (row.object == object)) [
      | inl t ↦ let no : Some row.grade ≡ None = sym (cond-true (row.object == object) (Some row.grade) (grade_among rows object) t) ∙ e in absurd (cc)
      | inr f ↦ cond-false (row.object == object) (Some row.grade) (grade_among (rows ++ more) object) f ∙ grade_among_append_none rows more object (sym (cond-false (row.object == object) (Some row.grade) (grade_among rows object) f) ∙ e)
    ]

-- the lists of a table by their numbers
pub list_at_contains : (D : List (List Row)) (list : ℕ) → list < length D → Contains D (list_at D list)
list_at_contains D list l = contains_at D list [] l

pub list_at_ranked : (n : ℕ) (D : List (List Row)) (list : ℕ) → IsTable n D → list < length D → IsRanked (list_at D list)
list_at_ranked n D list t l = t.ranked list [] l

pub list_at_length : (n : ℕ) (D : List (List Row)) (list : ℕ) → IsTable n D → list < length D → length (list_at D list) ≡ n
list_at_length n D list t l = t.sized list [] l

pub list_at_same : (n : ℕ) (D : List (List Row)) (list other : ℕ) (object : ℕ) → IsTable n D → list < length D → other < length D
    → Contains (objects (list_at D list)) object → Contains (objects (list_at D other)) object
list_at_same n D list other object t l o h = t.same list [] l other [] o object h

objects_of_first : (D : List (List Row)) → objects_of D ≡ objects (list_at D 0)
objects_of_first [] = refl
objects_of_first (rows ∷ lists) = refl

-- the objects of a table are those of each list
pub objects_in_each : (n : ℕ) (D : List (List Row)) (list object : ℕ) → IsTable n D → list < length D → Contains (objects_of D) object
    → Contains (objects (list_at D list)) object
objects_in_each n D list object t l h = list_at_same n D 0 list object t (omega arith) l (subst (λ os. Contains os object) (objects_of_first D) h)

pub objects_from_each : (n : ℕ) (D : List (List Row)) (list object : ℕ) → IsTable n D → list < length D → Contains (objects (list_at D list)) object
    → Contains (objects_of D) object
objects_from_each n D list object t l h = subst (λ os. Contains os object) (sym (objects_of_first D)) (list_at_same n D list 0 object t l (omega arith) h)

pub objects_distinct : (rows : List Row) → IsRanked rows → AllPairs (λ (a : ℕ) (b : ℕ). a ≢ b) (objects rows)
objects_distinct [] r = λ i j d l m. absurd (omega arith)
objects_distinct (row ∷ rows) r =
    AllPairs-cons (λ (a : ℕ) (b : ℕ). a ≢ b) row.object (objects rows)
    (all_from_members (λ b. row.object ≢ b) (objects rows) (λ object h.
    let from = contains_map_from (λ (z : Row). z.object) rows object h in
    λ e. ranked_head_apart row rows from.0 r from.1 (e ∙ sym from.2)))
    (objects_distinct rows (ranked_tail row rows r))
