-- Pages and grades of told lists, and the grade of an object by its first row.
use Rattle.std.proofs.Common.{◌≡◌, ◌≤◌, ◌<◌, ◌+◌, ◌-◌, ℕ, zero, suc, Bool, true, false, ◌==◌, cond, ◌&&◌, List, [], ◌∷◌, ◌++◌, length, take, drop, min, get_or, Option, Some, None, refl, sym, ap, ◌∙◌, subst, arith, eqb-true, eq-eqb}
use Rattle.std.specs.Prelude.{IfSome}
use Rattle.std.proofs.lemmas.Bool.{both_ways}
use Rattle.std.proofs.lemmas.List.{length-take, length-drop, take_more}
use Rattle.ranked_list.specs.declared.row.Row.{Row}
use Rattle.ranked_list.specs.Table.{objects}
use Rattle.source_api.specs.Told.{IsPage, IsGrade, first_grade, kept_first, each_once, told_of, is_empty, or_else}

-- ---- pages

page_is : (rows page : List Row) (from count : ℕ) → 1 ≤ count → page ≡ take count (drop from rows) → IsPage rows from page
page_is rows page from count one is =
    let long : length page ≡ min count (length rows - from) = ap length is ∙ (length-take count (drop from rows) ∙ ap (min count) (length-drop from rows)) in record {
      follows = is ∙ take_length count (drop from rows) ∙ ap (λ n. take n (drop from rows)) (sym (ap length is));
      moves = λ l. omega arith;
    }
  where
    take_length : (n : ℕ) (xs : List Row) → take n xs ≡ take (length (take n xs)) xs
    take_length zero xs = refl
    take_length (suc n) [] = refl
    take_length (suc n) (x ∷ xs) = ap (λ t. x ∷ t) (take_length n xs)

pub told_page : (stated : Option ℕ) (lies rows page : List Row) (from count : ℕ) → 1 ≤ count → page ≡ take count (drop from rows)
    → IfSome (told_of stated lies rows) (λ list. IsPage list from page)
told_page None lies rows page from count one is = by (is_empty lies && each_once rows)
  where
    by : (b : Bool) → IfSome (cond b (Some rows) None) (λ list. IsPage list from page)
    by true = page_is rows page from count one is
    by false = tt
told_page (Some n) lies rows page from count one is = tt

-- ---- grades

grade_there : (rows : List Row) (row : Row) (object : ℕ) (g : Option ℕ) → IsGrade rows object g → (row.object == object) ≡ false → IsGrade (row ∷ rows) object g
grade_there rows row object (Some grade) h other = (suc h.0, omega (arith, h.1), h.2)
grade_there rows row object None h other = λ c. at c.0 c.1 c.2
  where
    at : (k : ℕ) → k < suc (length (objects rows)) → get_or (row.object ∷ objects rows) k object ≡ object → ⊥
    at zero l e = both_ways _ other (eq-eqb row.object object e)
    at (suc k) l e = h (k, omega arith, e)

pub first_is_grade : (rows : List Row) (object : ℕ) → IsGrade rows object (first_grade rows object)
first_is_grade [] object = λ c. let l : c.0 < 0 = c.1 in absurd (omega arith)
first_is_grade (row ∷ rows) object = by (row.object == object) refl (first_is_grade rows object)
  where
    by : (b : Bool) → (row.object == object) ≡ b → IsGrade rows object (first_grade rows object)
        → IsGrade (row ∷ rows) object (cond b (Some row.grade) (first_grade rows object))
    by true e h = let same : row.object ≡ object = eqb-true row.object object e in (0, omega arith, ap (λ o. let r : Row = record { object = o; grade = row.grade } in r) same)
    by false e h = grade_there rows row object (first_grade rows object) h e

pub told_grade : (stated : Option ℕ) (lies rows : List Row) (object : ℕ) (grade : Option ℕ)
    → grade ≡ or_else (first_grade lies object) (first_grade rows object) → IfSome (told_of stated lies rows) (λ list. IsGrade list object grade)
told_grade None [] rows object grade is = by (each_once rows)
  where
    by : (b : Bool) → IfSome (cond b (Some rows) None) (λ list. IsGrade list object grade)
    by true = subst (IsGrade rows object) (sym is) (first_is_grade rows object)
    by false = tt
told_grade None (lie ∷ lies) rows object grade is = tt
told_grade (Some n) lies rows object grade is = tt

-- ---- the first row of an object

pub first_grade_push : (rows : List Row) (row : Row) (object : ℕ) → first_grade (rows ++ row ∷ []) object ≡ kept_first (first_grade rows object) row object
first_grade_push [] row object = refl
first_grade_push (first ∷ rows) row object = by (first.object == object) (first_grade_push rows row object)
  where
    by : (b : Bool) → first_grade (rows ++ row ∷ []) object ≡ kept_first (first_grade rows object) row object
        → cond b (Some first.grade) (first_grade (rows ++ row ∷ []) object) ≡ kept_first (cond b (Some first.grade) (first_grade rows object)) row object
    by true h = refl
    by false h = h

pub first_grade_more : (rows : List Row) (i : ℕ) (d : Row) (object : ℕ) → i < length rows
    → first_grade (take (i + 1) rows) object ≡ kept_first (first_grade (take i rows) object) (get_or rows i d) object
first_grade_more rows i d object l = ap (λ r. first_grade r object) (take_more rows i d l) ∙ first_grade_push (take i rows) (get_or rows i d) object

-- what the first rows lack stands below
pub first_grade_drop : (rows : List Row) (i : ℕ) (d : Row) (object : ℕ) → i < length rows
    → first_grade (drop i rows) object ≡ cond ((get_or rows i d).object == object) (Some (get_or rows i d).grade) (first_grade (drop (i + 1) rows) object)
first_grade_drop [] i d object l = absurd (omega arith)
first_grade_drop (row ∷ rows) zero d object l = refl
first_grade_drop (row ∷ rows) (suc i) d object l = let e : suc i + 1 ≡ suc (i + 1) = omega arith in first_grade_drop rows i d object (omega arith) ∙ ap (λ n. cond ((get_or rows i d).object == object) (Some (get_or rows i d).grade) (first_grade (drop n (row ∷ rows)) object)) (sym e)
