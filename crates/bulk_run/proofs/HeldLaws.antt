-- Grades by number, and what a made source tells.
use Rattle.std.proofs.Common.{◌≡◌, ◌≢◌, ◌≤◌, ◌<◌, ◌+◌, ℕ, suc, Bool, true, false, cond, not, ◌&&◌, inl, inr, List, [], ◌∷◌, ◌++◌, length, map, take, get_or, All, Contains, Option, Some, None, refl, sym, ap, subst, ◌∙◌, arith}
use Rattle.std.specs.Prelude.{nat_eq}
use Rattle.std.specs.List.{slice_set}
use Rattle.std.specs.Set.{is_member}
use Rattle.std.proofs.lemmas.Bool.{cases_eq, cases_lt}
use Rattle.std.proofs.lemmas.List.{get_or-set_same, get_or-set_other, get_or_past, take_all, take_more, map-append}
use Rattle.std.proofs.lemmas.List.Elements.{Contains-append_left, Contains-push, Contains-push_cases}
use Rattle.ranked_list.specs.declared.row.Row.{Row}
use Rattle.ranked_list.specs.Table.{objects}
use Rattle.ranked_list.proofs.Members.{contains_from_member}
use Rattle.topk_theory.proofs.AgreementLists.{contains_nil, contains_map, contains_map_from}
use Rattle.source_api.specs.Told.{HasEachOnce, IsGrade, each_once, told_of}
use Rattle.fetcher.specs.declared.slot.Slot.{Slot}
use Rattle.bulk_run.specs.Held.{Held, AreGradesOf, AreSmall, fresh, fresh_slot, new_slot, grade_at}

-- ---- grades by number

-- nothing is kept of no rows
pub none_kept : (n : ℕ) (grades : List (Option ℕ)) → length grades ≡ n → ((k : ℕ) → k < n → grade_at grades k ≡ None) → AreGradesOf [] grades
none_kept n grades long none = λ object.
    let here : grade_at grades object ≡ None = elim (cases_lt object n) [ inl l ↦ none object l | inr l ↦ get_or_past grades object None (omega (arith, long, l)) ] in
    subst (IsGrade [] object) (sym here) (λ c. contains_nil object c)

-- a grade stays with one row more of another object
still_grade : (rows : List Row) (row : Row) (object : ℕ) (grade : Option ℕ) → object ≢ row.object → IsGrade rows object grade
    → IsGrade (rows ++ row ∷ []) object grade
still_grade rows row object (Some grade) apart h = Contains-append_left rows (row ∷ []) (record { object = object; grade = grade }) h
still_grade rows row object None apart h = λ c.
    let from = contains_map_from (λ (r : Row). r.object) (rows ++ row ∷ []) object c in
    elim (Contains-push_cases rows row from.0 from.1) [
      | inl before ↦ h (subst (Contains (objects rows)) from.2 (contains_map (λ (r : Row). r.object) rows from.0 before))
      | inr here ↦ apart (sym from.2 ∙ ap (λ (r : Row). r.object) (sym here))
    ]

-- one row more, whose grade is kept
pub grade_kept : (rows : List Row) (row : Row) (grades : List (Option ℕ)) → row.object < length grades → AreGradesOf rows grades
    → AreGradesOf (rows ++ row ∷ []) (slice_set grades row.object (Some row.grade))
grade_kept rows row grades l h = λ object.
    let now : List (Option ℕ) = slice_set grades row.object (Some row.grade) in
    elim (cases_eq object row.object) [
      | inl same ↦ subst (λ o. IsGrade (rows ++ row ∷ []) o (grade_at now o)) (sym same)
          (subst (IsGrade (rows ++ row ∷ []) row.object) (sym (get_or-set_same grades row.object (Some row.grade) None l)) (Contains-push rows row))
      | inr apart ↦ subst (IsGrade (rows ++ row ∷ []) object) (sym (get_or-set_other grades row.object object (Some row.grade) None apart))
          (still_grade rows row object (grade_at grades object) apart (h object))
    ]

-- ---- the rows so far

row_kept : (list kept now : List Row) (n : ℕ) (row : Row) → n < length list → row ≡ get_or list n row → kept ≡ take n list → now ≡ kept ++ row ∷ []
    → now ≡ take (n + 1) list
row_kept list kept now n row l is kept_is push =
    push ∙ ap (λ (xs : List Row). xs ++ row ∷ []) kept_is ∙ ap (λ (r : Row). take n list ++ r ∷ []) is ∙ sym (take_more list n row l)

pub grades_kept : (list : List Row) (grades : List (Option ℕ)) (n : ℕ) (row : Row) → n < length list → row ≡ get_or list n row → AreSmall list
    → length grades ≡ length list + 1 → AreGradesOf (take n list) grades → AreGradesOf (take (n + 1) list) (slice_set grades row.object (Some row.grade))
grades_kept list grades n row l is small long h =
    let front : take (n + 1) list ≡ take n list ++ row ∷ [] = sym (row_kept list (take n list) (take n list ++ row ∷ []) n row l is refl refl) in
    let low = small n row l in
    let same : row.object ≡ (get_or list n row).object = ap (λ (r : Row). r.object) is in
    subst (λ (rows : List Row). AreGradesOf rows (slice_set grades row.object (Some row.grade))) (sym front)
    (grade_kept (take n list) row grades (omega (arith, low, same, long)) h)

-- once all rows were taken
pub grades_whole : (list : List Row) (grades : List (Option ℕ)) (n : ℕ) → length list ≤ n → AreGradesOf (take n list) grades → AreGradesOf list grades
grades_whole list grades n l h = subst (λ (rows : List Row). AreGradesOf rows grades) (take_all n list l) h

-- ---- what is told

-- rows in which no object comes twice are told
absent : (rows : List Row) (object : ℕ) → ((row : Row) → Contains rows row → row.object ≢ object) → not (is_member nat_eq (objects rows) object) ≡ true
absent rows object apart = by (is_member nat_eq (objects rows) object) refl
  where
    by : (b : Bool) → is_member nat_eq (objects rows) object ≡ b → not b ≡ true
    by true e =
        let from = contains_map_from (λ (r : Row). r.object) rows object (contains_from_member (objects rows) object e) in
        absurd (apart from.0 from.1 from.2)
    by false e = refl

once_passes : (rows : List Row) → HasEachOnce rows → each_once rows ≡ true
once_passes [] h = refl
once_passes (row ∷ rows) h =
    let head : not (is_member nat_eq (objects rows) row.object) ≡ true =
    absent rows row.object (λ other c same. h 0 (suc c.0) other (omega arith) (omega (arith, c.1)) (sym same ∙ ap (λ (r : Row). r.object) (sym c.2))) in
    let tail : each_once rows ≡ true = once_passes rows (λ i j d below within. h (suc i) (suc j) d (omega arith) (omega arith)) in
    ap (λ b. b && each_once rows) head ∙ tail

pub told_whole : (rows : List Row) → HasEachOnce rows → told_of None [] rows ≡ Some rows
told_whole rows once = ap (λ b. cond {A = Option (List Row)} b (Some rows) None) (once_passes rows once)

-- ---- slots of lists

pub small_at : (table : List (List Row)) (i : ℕ) (list : List Row) → All AreSmall table → i < length table → list ≡ get_or table i list → AreSmall list
small_at table i list small l is = subst AreSmall (sym is) (small i list l)

pub slots_more : (table : List (List Row)) (slots now : List (Slot Held)) (i : ℕ) (list : List Row) (slot : Slot Held) → i < length table → list ≡ get_or table i list
    → slots ≡ map fresh_slot (take i table) → slot ≡ fresh_slot list → now ≡ slots ++ slot ∷ [] → now ≡ map fresh_slot (take (i + 1) table)
slots_more table slots now i list slot l is before made push =
    push ∙ ap (λ (one : Slot Held). slots ++ one ∷ []) made ∙ ap (λ (xs : List (Slot Held)). xs ++ fresh_slot list ∷ []) before
    ∙ sym (map-append fresh_slot (take i table) (list ∷ []))
    ∙ ap (map fresh_slot) (ap (λ (rows : List Row). take i table ++ rows ∷ []) is ∙ sym (take_more table i list l))

pub slots_whole : (table : List (List Row)) (slots : List (Slot Held)) (i : ℕ) → length table ≤ i → slots ≡ map fresh_slot (take i table)
    → slots ≡ map fresh_slot table
slots_whole table slots i l are = are ∙ ap (map fresh_slot) (take_all i table l)

-- the source of a slot of which nothing was fetched yet
pub slot_made : (list : List Row) (source : Held) (slot : Slot Held) → source ≡ fresh list → slot ≡ new_slot source → slot ≡ fresh_slot list
slot_made list source slot is made = made ∙ ap new_slot is
