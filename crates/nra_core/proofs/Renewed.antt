-- What more accesses do to bounds: lows only rise, and highs only fall.
use Rattle.std.proofs.Common.{◌≡◌, ◌≢◌, inl, inr, ℕ, ◌<◌, ◌≤◌, List, [], ◌∷◌, ◌++◌, length, drop, None, unwrap_or, sym, ap, subst, arith}
use Rattle.ranked_list.specs.declared.row.Row.{Row}
use Rattle.ranked_list.specs.Table.{IsRanked, grade_in, top_grade}
use Rattle.ranked_list.proofs.OptionLaws.{option_cases}
use Rattle.monotone_fn.specs.Value.{IsMonotone}
use Rattle.topk_theory.specs.declared.access.Access.{Access}
use Rattle.topk_theory.specs.Transcript.{last_grade, object_of, sorted_rows, list_at, list_numbers, bottom_of, Agrees}
use Rattle.topk_theory.specs.Bounds.{known_grade, low, high}
use Rattle.topk_theory.proofs.AgreementLists.{begins_splits}
use Rattle.topk_theory.proofs.AgreementRows.{list_at_ranked}
use Rattle.topk_theory.proofs.Agreement.{sorted_rows_append, agrees_front, known_grade_is, known_grade_kept, known_grade_other_object}
use Rattle.topk_theory.proofs.BoundsLaws.{Falls, Falls-from_ranked, unknown_below, sorted_none, zip_numbers}
use Rattle.topk_theory.proofs.ThresholdLists.{map_same}
use Rattle.nra_core.specs.Late.{AreNextBounds}

-- ---- bottoms fall
last_below : (above : ℕ) (rows : List Row) → Falls above rows → last_grade above rows ≤ above
last_below above [] falls = omega arith
last_below above (row ∷ rows) falls =
    let head : row.grade ≤ above = falls.0 in
    omega (arith, last_below row.grade rows falls.1)

last_falls : (above : ℕ) (front more : List Row) → Falls above (front ++ more) → last_grade above (front ++ more) ≤ last_grade above front
last_falls above [] more falls = last_below above more falls
last_falls above (row ∷ front) more falls = last_falls row.grade front more falls.1

falls_front : (above : ℕ) (front more : List Row) → Falls above (front ++ more) → Falls above front
falls_front above [] more falls = tt
falls_front above (row ∷ front) more falls = (falls.0, falls_front row.grade front more falls.1)

-- the rows that a list of a table gave fall, whatever follows
read_falls : (m n : ℕ) (D : List (List Row)) (A : List Access) (list : ℕ) → Agrees m n D A → list < m
    → Falls top_grade (sorted_rows list A ++ drop (length (sorted_rows list A)) (list_at D list))
read_falls m n D A list agrees lt =
    let split = begins_splits (sorted_rows list A) (list_at D list) (agrees.drawn.sorted list lt) in
    let ranked : IsRanked (list_at D list) = list_at_ranked n D list agrees.table (let e = agrees.lists in omega arith) in
    subst (λ rows. Falls top_grade rows) split (Falls-from_ranked (list_at D list) ranked)

pub bottoms_fall : (m n : ℕ) (D : List (List Row)) (A B : List Access) (list : ℕ) → Agrees m n D (A ++ B) → list < m
    → bottom_of list (A ++ B) ≤ bottom_of list A
bottoms_fall m n D A B list agrees lt =
    let rows = sorted_rows list (A ++ B) in
    let falls : Falls top_grade rows = falls_front top_grade rows (drop (length rows) (list_at D list)) (read_falls m n D (A ++ B) list agrees lt) in
    subst (λ rs. last_grade top_grade rs ≤ bottom_of list A) (sym (sorted_rows_append list A B))
    (last_falls top_grade (sorted_rows list A) (sorted_rows list B) (subst (λ rs. Falls top_grade rs) (sorted_rows_append list A B) falls))

-- a grade that no access gave is no greater than the bottom
unknown_above : (m n : ℕ) (D : List (List Row)) (A : List Access) (object list : ℕ) → Agrees m n D A → list < m → known_grade A object list ≡ None
    → grade_in (list_at D list) object ≤ bottom_of list A
unknown_above m n D A object list agrees lt none =
    let front = sorted_rows list A in
    let split = begins_splits front (list_at D list) (agrees.drawn.sorted list lt) in
    subst (λ rows. grade_in rows object ≤ bottom_of list A) (sym split)
    (unknown_below top_grade front (drop (length front) (list_at D list)) object (read_falls m n D A list agrees lt) (sorted_none list object A none))

-- ---- in one list
low_part : (A B : List Access) (object list : ℕ) → unwrap_or (known_grade A object list) 0 ≤ unwrap_or (known_grade (A ++ B) object list) 0
low_part A B object list =
    elim (option_cases (known_grade A object list)) [
      | inl none ↦ subst (λ o. unwrap_or o 0 ≤ unwrap_or (known_grade (A ++ B) object list) 0) (sym none) (omega arith)
      | inr some ↦ subst (λ o. unwrap_or o 0 ≤ unwrap_or (known_grade (A ++ B) object list) 0) (sym some.1)
          (subst (λ o. some.0 ≤ unwrap_or o 0) (sym (known_grade_kept A B object list some.0 some.1)) (omega arith))
    ]

high_part : (m n : ℕ) (D : List (List Row)) (A B : List Access) (object list : ℕ) → Agrees m n D (A ++ B) → list < m
    → unwrap_or (known_grade (A ++ B) object list) (bottom_of list (A ++ B)) ≤ unwrap_or (known_grade A object list) (bottom_of list A)
high_part m n D A B object list agrees lt =
    let then = unwrap_or (known_grade (A ++ B) object list) (bottom_of list (A ++ B)) in
    elim (option_cases (known_grade A object list)) [
      | inl none ↦ subst (λ o. then ≤ unwrap_or o (bottom_of list A)) (sym none) (elim (option_cases (known_grade (A ++ B) object list)) [
        | inl still ↦ subst (λ o. unwrap_or o (bottom_of list (A ++ B)) ≤ bottom_of list A) (sym still) (bottoms_fall m n D A B list agrees lt)
        | inr known ↦ subst (λ o. unwrap_or o (bottom_of list (A ++ B)) ≤ bottom_of list A) (sym known.1)
            (let is : grade_in (list_at D list) object ≡ known.0 = known_grade_is m n D (A ++ B) object list known.0 agrees lt known.1 in
            let upto = unknown_above m n D A object list (agrees_front m n D A B agrees) lt none in
            omega arith)
      ])
      | inr some ↦ subst (λ o. then ≤ unwrap_or o (bottom_of list A)) (sym some.1)
          (subst (λ o. unwrap_or o (bottom_of list (A ++ B)) ≤ some.0) (sym (known_grade_kept A B object list some.0 some.1)) (omega arith))
    ]

-- ---- bounds
pub low_rises : (V : List ℕ → ℕ) (m : ℕ) (A B : List Access) (object : ℕ) → IsMonotone V → low V m A object ≤ low V m (A ++ B) object
low_rises V m A B object monotone =
    monotone _ _ (zip_numbers (λ list. unwrap_or (known_grade A object list) 0) (λ list. unwrap_or (known_grade (A ++ B) object list) 0) m (λ list lt. low_part A B object list))

pub high_falls : (V : List ℕ → ℕ) (m n : ℕ) (D : List (List Row)) (A B : List Access) (object : ℕ) → IsMonotone V → Agrees m n D (A ++ B)
    → high V m (A ++ B) object ≤ high V m A object
high_falls V m n D A B object monotone agrees =
    monotone _ _ (zip_numbers (λ list. unwrap_or (known_grade (A ++ B) object list) (bottom_of list (A ++ B))) (λ list. unwrap_or (known_grade A object list) (bottom_of list A)) m
    (λ list lt. high_part m n D A B object list agrees lt))

-- the low of an object that the access doesn't name stays
pub low_stays : (V : List ℕ → ℕ) (m : ℕ) (A : List Access) (a : Access) (object : ℕ) → object_of a ≢ object
    → low V m (A ++ a ∷ []) object ≡ low V m A object
low_stays V m A a object other =
    ap V (map_same (λ list. unwrap_or (known_grade (A ++ a ∷ []) object list) 0) (λ list. unwrap_or (known_grade A object list) 0) (list_numbers m)
    (λ list c. ap (λ o. unwrap_or o 0) (known_grade_other_object A a object list other)))

pub next_bounds : (V : List ℕ → ℕ) (m n : ℕ) (D : List (List Row)) (A : List Access) (a : Access) → IsMonotone V → Agrees m n D (A ++ a ∷ [])
    → AreNextBounds (low V m A) (high V m A) (low V m (A ++ a ∷ [])) (high V m (A ++ a ∷ [])) (object_of a)
next_bounds V m n D A a monotone agrees = record {
  others = λ other apart. low_stays V m A a other apart;
  rises = λ other. low_rises V m A (a ∷ []) other monotone;
  falls = λ other. high_falls V m n D A (a ∷ []) other monotone agrees;
}
