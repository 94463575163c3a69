-- How deep a transcript reads: against the objects that it sees, and its bottoms against the rows of the table.
use Rattle.std.proofs.Common.{◌≡◌, ℕ, zero, suc, ◌+◌, ◌-◌, ◌<◌, ◌≤◌, inl, inr, true, cond, ◌==◌, max, List, [], ◌∷◌, ◌++◌, length, map, drop, Contains, Some, None, slice_index_or, filter_map, refl, sym, ap, subst, ◌∙◌, arith, eq-eqb}
use Rattle.std.specs.List.{fold}
use Rattle.std.proofs.lemmas.Bool.{cases_Bool, eqb-false}
use Rattle.std.proofs.lemmas.List.Sums.{sum_by-cons}
use Rattle.ranked_list.specs.declared.row.Row.{Row}
use Rattle.ranked_list.specs.Table.{IsRanked, objects, place_in, top_grade}
use Rattle.topk_theory.specs.declared.access.Access.{Access}
use Rattle.topk_theory.specs.declared.access.Access.TheVariants.{Sorted, Random}
use Rattle.monotone_fn.specs.Value.{IsMonotone}
use Rattle.topk_theory.specs.Transcript.{Agrees, last_grade, list_at, list_numbers, sorted_row, sorted_rows, sorted_object, seen_objects, is_sorted, sorted_count, depth, depth_of, bottom_of}
use Rattle.topk_theory.specs.Bounds.{threshold}
use Rattle.topk_theory.specs.Threshold.{row_at, stands, threshold_at}
use Rattle.topk_theory.proofs.AgreementLists.{contains_nil, contains_cases, contains_here, contains_there, contains_map, contains_map_from, begins_splits, distinct_fits}
use Rattle.topk_theory.proofs.AgreementNames.{each_once_complete, each_once_within, each_once_distinct}
use Rattle.topk_theory.proofs.AgreementRows.{list_at_ranked, list_at_contains}
use Rattle.topk_theory.proofs.Agreement.{agrees_in_range}
use Rattle.topk_theory.proofs.BoundsLaws.{Falls, Falls-from_ranked, map_places, zip_numbers}
use Rattle.topk_theory.proofs.ConsistentRows.{ranked_front}
use Rattle.topk_theory.proofs.ListNumbers.{number_in, number_below}
use Rattle.topk_theory.proofs.NoRandomQuiet.{sorted_is_seen}
use Rattle.topk_theory.proofs.ThresholdDepth.{stands_within}
use Rattle.topk_theory.proofs.ThresholdRun.{access_from_seen, contains_filter_map}
use Rattle.ranked_list.proofs.RankLaws.{length-objects}
use Rattle.topk_theory.proofs.ThresholdTables.{distinct_objects}

-- the greatest of numbers, from one on
fold_from : (start : ℕ) (xs : List ℕ) → start ≤ fold max start xs
fold_from start [] = omega arith
fold_from start (x ∷ xs) = let more : max start x ≤ fold max (max start x) xs = fold_from (max start x) xs in omega arith

fold_above : (start : ℕ) (xs : List ℕ) (x : ℕ) → Contains xs x → x ≤ fold max start xs
fold_above start [] x c = absurd (contains_nil x c)
fold_above start (y ∷ xs) x c =
    elim (contains_cases y xs x c) [
      | inl e ↦ let more : max start y ≤ fold max (max start y) xs = fold_from (max start y) xs in omega arith
      | inr t ↦ fold_above (max start y) xs x t
    ]

fold_below : (start : ℕ) (xs : List ℕ) (bound : ℕ) → start ≤ bound → ((x : ℕ) → Contains xs x → x ≤ bound) → fold max start xs ≤ bound
fold_below start [] bound l h = l
fold_below start (x ∷ xs) bound l h =
    let first : x ≤ bound = h x (contains_here x xs) in
    fold_below (max start x) xs bound (omega arith) (λ y c. h y (contains_there x xs y c))

pub depth_above : (m : ℕ) (A : List Access) (list : ℕ) → list < m → depth_of list A ≤ depth m A
depth_above m A list l = fold_above 0 (map (λ i. depth_of i A) (list_numbers m)) (depth_of list A) (contains_map (λ i. depth_of i A) (list_numbers m) list (number_in m list l))

pub depth_below : (m : ℕ) (A : List Access) (bound : ℕ) → ((list : ℕ) → list < m → depth_of list A ≤ bound) → depth m A ≤ bound
depth_below m A bound h =
    fold_below 0 (map (λ i. depth_of i A) (list_numbers m)) bound (omega arith) (λ x c.
    let from = contains_map_from (λ i. depth_of i A) (list_numbers m) x c in
    let le : depth_of from.0 A ≤ bound = h from.0 (number_below m from.0 from.1) in
    let e : depth_of from.0 A ≡ x = from.2 in
    omega arith)

-- where a transcript reads each list to one depth, that is its depth
pub depth_is : (m : ℕ) (A : List Access) (deep : ℕ) → 0 < m → ((list : ℕ) → list < m → depth_of list A ≡ deep) → depth m A ≡ deep
depth_is m A deep some h =
    let up : depth_of 0 A ≤ depth m A = depth_above m A 0 some in
    let at : depth_of 0 A ≡ deep = h 0 some in
    let down : depth m A ≤ deep = depth_below m A deep (λ list l. let e : depth_of list A ≡ deep = h list l in omega arith) in
    omega arith

-- what each list has given is seen, so no list was read deeper than objects were seen
pub depth_of_seen : (m n : ℕ) (D : List (List Row)) (A : List Access) (list : ℕ) → Agrees m n D A → list < m
    → depth_of list A ≤ length (seen_objects A)
depth_of_seen m n D A list h l =
    let read = sorted_rows list A in
    let split : list_at D list ≡ read ++ drop (length read) (list_at D list) = begins_splits read (list_at D list) (h.drawn.sorted list l) in
    let ranked : IsRanked read = ranked_front read (drop (length read) (list_at D list)) (subst IsRanked split (list_at_ranked n D list h.table (subst (λ k. list < k) (sym h.lists) l))) in
    let fits : length (objects read) ≤ length (seen_objects A) = distinct_fits (objects read) (seen_objects A) (distinct_objects read ranked.distinct)
    (λ object c. each_once_complete (filter_map sorted_object A) object (sorted_is_seen list object A c)) in
    omega (arith, length-objects read)

pub depth_seen : (m n : ℕ) (D : List (List Row)) (A : List Access) → Agrees m n D A → depth m A ≤ length (seen_objects A)
depth_seen m n D A h = depth_below m A (length (seen_objects A)) (λ list l. depth_of_seen m n D A list h l)

-- each sorted access sees one object at most
sorted_named : (A : List Access) → length (filter_map sorted_object A) ≡ sorted_count A
sorted_named [] = refl
sorted_named (Sorted list object grade ∷ A) =
    let more : length (filter_map sorted_object A) ≡ sorted_count A = sorted_named A in
    let e = sum_by-cons (λ access. cond {A = ℕ} (is_sorted access) 1 0) (Sorted list object grade) A in
    omega (arith, e, more)
sorted_named (Random list object grade ∷ A) =
    let more : length (filter_map sorted_object A) ≡ sorted_count A = sorted_named A in
    let e = sum_by-cons (λ access. cond {A = ℕ} (is_sorted access) 1 0) (Random list object grade) A in
    omega (arith, e, more)

pub seen_sorted : (A : List Access) → length (seen_objects A) ≤ sorted_count A
seen_sorted A =
    let fits : length (seen_objects A) ≤ length (filter_map sorted_object A) = distinct_fits (seen_objects A) (filter_map sorted_object A) (each_once_distinct (filter_map sorted_object A)) (λ x c. each_once_within (filter_map sorted_object A) x c) in
    omega (arith, sorted_named A)

-- from the last row that was read on down, no grade is above the last one that was read
falls_at : (above : ℕ) (rows : List Row) (place : ℕ) → Falls above rows → (slice_index_or rows place (record { object = 0; grade = 0 })).grade ≤ above
falls_at above [] place h = omega arith
falls_at above (row ∷ rows) zero h = h.0
falls_at above (row ∷ rows) (suc place) h =
    let head : row.grade ≤ above = h.0 in
    let more : (slice_index_or rows place (record { object = 0; grade = 0 })).grade ≤ row.grade = falls_at row.grade rows place h.1 in
    omega arith

last_above : (above : ℕ) (front rest : List Row) (place : ℕ) → Falls above (front ++ rest) → length front ≤ suc place
    → (slice_index_or (front ++ rest) place (record { object = 0; grade = 0 })).grade ≤ last_grade above front
last_above above [] rest place h l = falls_at above rest place h
last_above above (row ∷ []) rest zero h l = omega arith
last_above above (row ∷ next ∷ front) rest zero h l = absurd (omega arith)
last_above above (row ∷ front) rest (suc place) h l = last_above row.grade front rest place h.1 (omega arith)

row_below_bottom : (m n : ℕ) (D : List (List Row)) (A : List Access) (list at : ℕ) → Agrees m n D A → list < m → 1 ≤ at
    → depth_of list A ≤ at → (row_at (list_at D list) at).grade ≤ bottom_of list A
row_below_bottom m n D A list at h l one deep =
    let read = sorted_rows list A in
    let rest = drop (length read) (list_at D list) in
    let split : list_at D list ≡ read ++ rest = begins_splits read (list_at D list) (h.drawn.sorted list l) in
    let ranked : IsRanked (list_at D list) = list_at_ranked n D list h.table (subst (λ k. list < k) (sym h.lists) l) in
    let falls : Falls top_grade (read ++ rest) = subst (λ rows. Falls top_grade rows) split (Falls-from_ranked (list_at D list) ranked) in
    subst (λ rows. (row_at rows at).grade ≤ bottom_of list A) (sym split) (last_above top_grade read rest (at - 1) falls (omega arith))

-- so the algorithm's threshold at such a depth is no more than the transcript's
pub threshold_below : (V : List ℕ → ℕ) (m n : ℕ) (D : List (List Row)) (A : List Access) (at : ℕ) → IsMonotone V → Agrees m n D A → 1 ≤ at
    → depth m A ≤ at → threshold_at V D at ≤ threshold V m A
threshold_below V m n D A at monotone h one deep =
    let by_number : map (λ rows. (row_at rows at).grade) D ≡ map (λ list. (row_at (list_at D list) at).grade) (list_numbers m) =
    map_places (λ rows. (row_at rows at).grade) D 0 D refl ∙ ap (λ count. map (λ list. (row_at (list_at D list) at).grade) (list_numbers count)) h.lists in
    rw by_number (monotone _ _ (zip_numbers (λ list. (row_at (list_at D list) at).grade) (λ list. bottom_of list A) m (λ list l.
    row_below_bottom m n D A list at h l one (let le = depth_above m A list l in omega arith))))

-- what was read of a list stands there down to the depth
place_in_front : (front rest : List Row) (object : ℕ) → Contains (objects front) object → place_in (front ++ rest) object < length front
place_in_front [] rest object c = absurd (contains_nil object c)
place_in_front (row ∷ front) rest object c =
    elim (cases_Bool (row.object == object)) [
      | inl t ↦ let e : place_in (row ∷ (front ++ rest)) object ≡ 0 = ap (λ b. cond b 0 (suc (place_in (front ++ rest) object))) t in omega arith
      | inr f ↦
          let e : place_in (row ∷ (front ++ rest)) object ≡ suc (place_in (front ++ rest) object) = ap (λ b. cond b 0 (suc (place_in (front ++ rest) object))) f in
          elim (contains_cases row.object (objects front) object c) [
            | inl same ↦ absurd (eqb-false row.object object f same)
            | inr t ↦ let more : place_in (front ++ rest) object < length front = place_in_front front rest object t in omega arith
          ]
    ]

-- each seen object stands down to each depth that isn't less than the transcript's
pub seen_stands_below : (m n : ℕ) (D : List (List Row)) (A : List Access) (object at : ℕ) → Agrees m n D A → depth m A ≤ at
    → Contains (seen_objects A) object → stands D at object ≡ true
seen_stands_below m n D A object at h deep c =
    let from = access_from_seen A object c in
    let list = from.0 in
    let l : list < m = agrees_in_range m n D A (Sorted list object from.1) h from.2 in
    let read = sorted_rows list A in
    let row : Row = record { object = object; grade = from.1 } in
    let here : Contains read row = contains_filter_map (sorted_row list) A (Sorted list object from.1) row from.2 (ap (λ b. cond b (Some row) None) (eq-eqb list list refl)) in
    let split : list_at D list ≡ read ++ drop (length read) (list_at D list) = begins_splits read (list_at D list) (h.drawn.sorted list l) in
    let before : place_in (list_at D list) object < length read = subst (λ rows. place_in rows object < length read) (sym split) (place_in_front read (drop (length read) (list_at D list)) object (contains_map (λ (z : Row). z.object) read row here)) in
    let le : depth_of list A ≤ depth m A = depth_above m A list l in
    stands_within D (list_at D list) at object (list_at_contains D list (subst (λ k. list < k) (sym h.lists) l)) (omega arith)

-- nothing is less than the value at zeros
pub zeros_least : (V : List ℕ → ℕ) (m : ℕ) (f : ℕ → ℕ) → IsMonotone V → V (map (λ list. 0) (list_numbers m)) ≤ V (map f (list_numbers m))
zeros_least V m f monotone = monotone _ _ (zip_numbers (λ list. 0) f m (λ list l. omega arith))
