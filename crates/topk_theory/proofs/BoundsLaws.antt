-- The bounds of a transcript hold on each table that agrees with it.
use Rattle.std.proofs.Common.{◌≡◌, ◌≤◌, ◌<◌, ◌==◌, ◌+◌, inl, inr, ℕ, zero, suc, true, false, cond, List, [], ◌∷◌, ◌++◌, length, map, drop, Option, Some, None, unwrap_or, refl, sym, ap, ◌∙◌, subst, arith, add-one}
use Rattle.std.specs.List.{All, AllPairs, AllZip, range_with_len, cons_option}
use Rattle.std.proofs.lemmas.List.Elements.{All-head}
use Rattle.ranked_list.specs.declared.row.Row.{Row}
use Rattle.ranked_list.specs.Table.{IsRanked, grade_in, top_grade}
use Rattle.ranked_list.proofs.OptionLaws.{option_cases}
use Rattle.topk_theory.specs.declared.access.Access.{Access}
use Rattle.topk_theory.specs.declared.access.Access.TheVariants.{Sorted, Random}
use Rattle.topk_theory.specs.Transcript.{last_grade, sorted_rows, given_rows, list_at, list_numbers, bottom_of, Agrees}
use Rattle.monotone_fn.specs.Value.{NoSmaller, IsMonotone, with_bottoms}
use Rattle.topk_theory.specs.Aggregate.{grades_of, aggregate}
use Rattle.topk_theory.specs.Bounds.{grade_among, known_grade, low, high}
use Rattle.topk_theory.proofs.AgreementLists.{begins_splits, no_smaller}
use Rattle.topk_theory.proofs.AgreementRows.{list_at_ranked}
use Rattle.topk_theory.proofs.Agreement.{known_grade_is}

-- grades list by list, the unknown ones replaced
pub bottoms_filled : (f : ℕ → Option ℕ) (g : ℕ → ℕ) (xs : List ℕ) → with_bottoms (map f xs) (map g xs) ≡ map (λ x. unwrap_or (f x) (g x)) xs
bottoms_filled f g [] = refl
bottoms_filled f g (x ∷ xs) = ap (λ ys. unwrap_or (f x) (g x) ∷ ys) (bottoms_filled f g xs)

-- each grade is at most the one above it, and the first at most above
abbrev pub Falls : ℕ → List Row → Type 0
Falls above [] = Unit {0}
Falls above (row ∷ rows) = (row.grade ≤ above) × Falls row.grade rows

pairs_tail : (R : Row → Row → Type 0) (row : Row) (rows : List Row) → AllPairs R (row ∷ rows) → AllPairs R rows
pairs_tail R row rows h = λ i j d lt in_range. h (suc i) (suc j) d (omega arith) (omega arith)

pub Falls-from : (above : ℕ) (rows : List Row) → All (λ (row : Row). row.grade ≤ above) rows → AllPairs (λ (a : Row) (b : Row). b.grade ≤ a.grade) rows
    → Falls above rows
Falls-from above [] capped falling = tt
Falls-from above (row ∷ rows) capped falling = (
  All-head (λ (r : Row). r.grade ≤ above) row rows capped,
  Falls-from row.grade rows (λ k d in_range. falling 0 (suc k) d (omega arith) (omega arith)) (pairs_tail (λ (a : Row) (b : Row). b.grade ≤ a.grade) row rows falling),
)

pub Falls-from_ranked : (rows : List Row) → IsRanked rows → Falls top_grade rows
Falls-from_ranked rows h = Falls-from top_grade rows h.capped h.falling

pub grade_in_le : (above : ℕ) (rows : List Row) (object : ℕ) → Falls above rows → grade_in rows object ≤ above
grade_in_le above [] object h = omega arith
grade_in_le above (row ∷ rows) object h =
    let below : grade_in rows object ≤ row.grade = grade_in_le row.grade rows object h.1 in
    let head : row.grade ≤ above = h.0 in
    elim (row.object == object) as (λ b. cond b row.grade (grade_in rows object) ≤ above) [ true ↦ head | false ↦ omega arith ]

-- what the front doesn't give is no greater than the last grade of the front
pub unknown_below : (above : ℕ) (front rest : List Row) (object : ℕ) → Falls above (front ++ rest) → grade_among front object ≡ None
    → grade_in (front ++ rest) object ≤ last_grade above front
unknown_below above [] rest object h none = grade_in_le above rest object h
unknown_below above (row ∷ front) rest object h none =
    elim (row.object == object) as (λ b. cond b (Some row.grade) (grade_among front object) ≡ None → cond b row.grade (grade_in (front ++ rest) object) ≤ last_grade row.grade front)
    [ true ↦ λ e. absurd (let f : ⊥ = cc in f) | false ↦ λ e. unknown_below row.grade front rest object h.1 e ] none

-- where no access gave the object in a list, no sorted access did
pub sorted_none : (list object : ℕ) (A : List Access) → grade_among (given_rows list A) object ≡ None → grade_among (sorted_rows list A) object ≡ None
sorted_none list object [] none = refl
sorted_none list object (Sorted other o g ∷ A) none =
    elim (other == list) as (λ b. grade_among (cons_option (cond b (Some (record { object = o; grade = g })) None) (given_rows list A)) object ≡ None → grade_among (cons_option (cond b (Some (record { object = o; grade = g })) None) (sorted_rows list A)) object ≡ None) [
      | true ↦ elim (o == object) as (λ c. cond c (Some g) (grade_among (given_rows list A) object) ≡ None → cond c (Some g) (grade_among (sorted_rows list A) object) ≡ None)
          [ true ↦ λ e. e | false ↦ λ e. sorted_none list object A e ]
      | false ↦ λ e. sorted_none list object A e
    ] none
sorted_none list object (Random other o g ∷ A) none =
    elim (other == list) as (λ b. grade_among (cons_option (cond b (Some (record { object = o; grade = g })) None) (given_rows list A)) object ≡ None → grade_among (sorted_rows list A) object ≡ None) [
      | true ↦ elim (o == object) as (λ c. cond c (Some g) (grade_among (given_rows list A) object) ≡ None → grade_among (sorted_rows list A) object ≡ None)
          [ true ↦ λ e. absurd (let f : ⊥ = cc in f) | false ↦ λ e. sorted_none list object A e ]
      | false ↦ λ e. sorted_none list object A e
    ] none

at_drop : (start : ℕ) (all : List (List Row)) (rows : List Row) (D : List (List Row)) → drop start all ≡ rows ∷ D → list_at all start ≡ rows
at_drop zero [] rows D e = absurd (let f : ⊥ = cc in f)
at_drop zero (r ∷ all) rows D e = cc
at_drop (suc n) [] rows D e = absurd (let f : ⊥ = cc in f)
at_drop (suc n) (r ∷ all) rows D e = at_drop n all rows D e

drop_next : (start : ℕ) (all : List (List Row)) (rows : List Row) (D : List (List Row)) → drop start all ≡ rows ∷ D → drop (suc start) all ≡ D
drop_next zero [] rows D e = absurd (let f : ⊥ = cc in f)
drop_next zero (r ∷ all) rows D e = cc
drop_next (suc n) [] rows D e = absurd (let f : ⊥ = cc in f)
drop_next (suc n) (r ∷ all) rows D e = drop_next n all rows D e

-- values of a function over a list's places are its values over the list
pub map_places : (f : List Row → ℕ) (D : List (List Row)) (start : ℕ) (all : List (List Row)) → drop start all ≡ D
    → map f D ≡ map (λ list. f (list_at all list)) (range_with_len start (length D))
map_places f [] start all e = refl
map_places f (rows ∷ D) start all e =
    let here : list_at all start ≡ rows = at_drop start all rows D e in
    let rest : drop (start + 1) all ≡ D = rw add-one (drop_next start all rows D e) in
    rw here (ap (λ t. f rows ∷ t) (map_places f D (start + 1) all rest))

-- over the places from a start on, what is no greater at each place is no greater all along
zip_places : (f g : ℕ → ℕ) (start count : ℕ) → ((k : ℕ) → k < start + count → f k ≤ g k)
    → AllZip ◌≤◌ (map f (range_with_len start count)) (map g (range_with_len start count))
zip_places f g start zero h = tt
zip_places f g start (suc count) h = (h start (omega arith), zip_places f g (start + 1) count (λ k lt. h k (omega arith)))

pub zip_numbers : (f g : ℕ → ℕ) (m : ℕ) → ((k : ℕ) → k < m → f k ≤ g k) → NoSmaller (map f (list_numbers m)) (map g (list_numbers m))
zip_numbers f g m h = no_smaller _ _ (zip_places f g 0 m (λ k lt. h k (omega arith)))

-- the grades of an object, by the numbers of the lists
pub grades_by_number : (m : ℕ) (D : List (List Row)) (object : ℕ) → length D ≡ m
    → grades_of D object ≡ map (λ list. grade_in (list_at D list) object) (list_numbers m)
grades_by_number m D object sized = map_places (λ rows. grade_in rows object) D 0 D refl ∙ ap (λ n. map (λ list. grade_in (list_at D list) object) (list_numbers n)) sized

-- in one list, the grade of an object lies between what is put for it in the low and in the high
list_below : (m n : ℕ) (D : List (List Row)) (A : List Access) (object list : ℕ) → Agrees m n D A → list < m
    → unwrap_or (known_grade A object list) 0 ≤ grade_in (list_at D list) object
list_below m n D A object list agrees lt =
    elim (option_cases (known_grade A object list)) [
      | inl none ↦ rw none (omega arith)
      | inr known ↦ rw known.1 (omega (arith, known_grade_is m n D A object list known.0 agrees lt known.1))
    ]

list_above : (m n : ℕ) (D : List (List Row)) (A : List Access) (object list : ℕ) → Agrees m n D A → list < m
    → grade_in (list_at D list) object ≤ unwrap_or (known_grade A object list) (bottom_of list A)
list_above m n D A object list agrees lt =
    elim (option_cases (known_grade A object list)) [
      | inl none ↦ (
          let front = sorted_rows list A in
          let rest = drop (length front) (list_at D list) in
          let split : list_at D list ≡ front ++ rest = begins_splits front (list_at D list) (agrees.drawn.sorted list lt) in
          let ranked : IsRanked (list_at D list) = list_at_ranked n D list agrees.table (let e = agrees.lists in omega arith) in
          let falls : Falls top_grade (front ++ rest) = subst (λ rows. Falls top_grade rows) split (Falls-from_ranked (list_at D list) ranked) in
          let below = unknown_below top_grade front rest object falls (sorted_none list object A none) in
          rw none (subst (λ rows. grade_in rows object ≤ bottom_of list A) (sym split) below))
      | inr known ↦ rw known.1 (omega (arith, known_grade_is m n D A object list known.0 agrees lt known.1))
    ]

-- on a table that agrees with the transcript, each object's aggregate lies between its low and its high
pub low_holds : (V : List ℕ → ℕ) (m n : ℕ) (D : List (List Row)) (A : List Access) (object : ℕ) → IsMonotone V → Agrees m n D A
    → low V m A object ≤ aggregate V D object
low_holds V m n D A object monotone agrees =
    rw (grades_by_number m D object agrees.lists) (monotone _ _ (zip_numbers (λ list. unwrap_or (known_grade A object list) 0) (λ list. grade_in (list_at D list) object) m (λ list lt. list_below m n D A object list agrees lt)))

pub high_holds : (V : List ℕ → ℕ) (m n : ℕ) (D : List (List Row)) (A : List Access) (object : ℕ) → IsMonotone V → Agrees m n D A
    → aggregate V D object ≤ high V m A object
high_holds V m n D A object monotone agrees =
    rw (grades_by_number m D object agrees.lists) (monotone _ _ (zip_numbers (λ list. grade_in (list_at D list) object) (λ list. unwrap_or (known_grade A object list) (bottom_of list A)) m (λ list lt. list_above m n D A object list agrees lt)))
