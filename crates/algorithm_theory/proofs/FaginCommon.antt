-- What the rows down to a depth show: the objects that stand there, and those that stand there in every list.
use Rattle.std.proofs.Common.{◌≡◌, ◌≢◌, ◌⊎◌, ◌↔◌, ◌==◌, inl, inr, ℕ, zero, suc, ◌<◌, ◌≤◌, Bool, true, false, cond, List, [], ◌∷◌, length, take, filter, filter_map, AllPairs, Contains, Option, Some, None, is_none, count_by, nat_lt, nat_le, refl, sym, ap, subst, ◌∙◌, arith, eq-eqb, eqb-true}
use Rattle.std.proofs.lemmas.Bool.{cases_Bool, eqb-false, true≢false, lt-ltb, ltb-true}
use Rattle.std.proofs.lemmas.List.Sums.{length-filter, list_all-from_AllPass}
use Rattle.std.proofs.lemmas.List.Kept.{AllPairs-filter}
use Rattle.ranked_list.specs.declared.row.Row.{Row}
use Rattle.ranked_list.specs.Table.{IsTable, objects, place_in}
use Rattle.ranked_list.proofs.OptionLaws.{none_if_is_none}
use Rattle.topk_theory.specs.declared.access.Access.{Access}
use Rattle.topk_theory.specs.declared.access.Access.TheVariants.{Sorted, Random}
use Rattle.topk_theory.specs.Aggregate.{objects_of}
use Rattle.topk_theory.specs.Transcript.{list_at, list_of, object_of, list_numbers, sorted_row, random_row, sorted_rows, random_rows, given_rows, sorted_object, seen_objects}
use Rattle.topk_theory.specs.Bounds.{known_grade}
use Rattle.topk_theory.specs.Threshold.{stands, objects_to}
use Rattle.topk_theory.specs.NoRandom.{nra_run_to}
use Rattle.topk_theory.specs.Combined.{unknown_lists}
use Rattle.topk_theory.proofs.AgreementLists.{contains_nil, contains_here, contains_there, contains_cases, contains_map_from, all_from_members, distinct_fits}
use Rattle.topk_theory.proofs.AgreementNames.{each_once_complete}
use Rattle.topk_theory.proofs.AgreementRows.{list_at_contains, objects_in_each, object_of_row, grade_among_none, grade_among_absent}
use Rattle.topk_theory.proofs.Agreement.{row_of, given_from, contains_middle, agrees_in_range, objects_of_distinct, seen_distinct, seen_in_table}
use Rattle.topk_theory.proofs.BoundsLaws.{sorted_none}
use Rattle.topk_theory.proofs.ListNumbers.{number_below, number_in}
use Rattle.topk_theory.proofs.ThresholdLists.{contains_filter, contains_from_filter}
use Rattle.topk_theory.proofs.ThresholdDepth.{stands_within, stands_from}
use Rattle.topk_theory.proofs.ThresholdRun.{contains_filter_map, access_from_seen, list_number}
use Rattle.topk_theory.proofs.NoRandomRun.{run_rows, run_random}
use Rattle.topk_theory.proofs.NoRandomLaws.{run_agrees}
use Rattle.topk_theory.proofs.NoRandomQuiet.{sorted_is_seen}
use Rattle.topk_theory.proofs.NoRandomTop.{all_passes}
use Rattle.algorithm_theory.specs.Fagin.{stands_in_all, fa_stop, known_whole}

-- ---- an object of the first rows of a list stands there
pub place_of_front : (depth : ℕ) (rows : List Row) (object : ℕ) → Contains (objects (take depth rows)) object → place_in rows object < depth
place_of_front zero rows object c = absurd (contains_nil object c)
place_of_front (suc depth) [] object c = absurd (contains_nil object c)
place_of_front (suc depth) (row ∷ rows) object c =
    elim (cases_Bool (row.object == object)) [
      | inl t ↦ let here : place_in (row ∷ rows) object ≡ 0 = ap (λ b. cond b 0 (suc (place_in rows object))) t in omega arith
      | inr f ↦
          let later : place_in (row ∷ rows) object ≡ suc (place_in rows object) = ap (λ b. cond b 0 (suc (place_in rows object))) f in
          elim (contains_cases row.object (objects (take depth rows)) object c) [
            | inl e ↦ absurd (eqb-false row.object object f e)
            | inr r ↦ let more : place_in rows object < depth = place_of_front depth rows object r in omega arith
          ]
    ]

pub front_of_place : (depth : ℕ) (rows : List Row) (object : ℕ) → Contains (objects rows) object → place_in rows object < depth
    → Contains (objects (take depth rows)) object
front_of_place zero rows object c l = absurd (omega arith)
front_of_place (suc depth) [] object c l = absurd (contains_nil object c)
front_of_place (suc depth) (row ∷ rows) object c l =
    elim (cases_Bool (row.object == object)) [
      | inl t ↦ subst (λ o. Contains (row.object ∷ objects (take depth rows)) o) (eqb-true row.object object t) (contains_here row.object (objects (take depth rows)))
      | inr f ↦
          let later : place_in (row ∷ rows) object ≡ suc (place_in rows object) = ap (λ b. cond b 0 (suc (place_in rows object))) f in
          elim (contains_cases row.object (objects rows) object c) [
            | inl e ↦ absurd (eqb-false row.object object f e)
            | inr r ↦ contains_there row.object (objects (take depth rows)) object (front_of_place depth rows object r (omega arith))
          ]
    ]

-- ---- the rows down to a depth give the objects that stand there
pub rows_see : (n depth : ℕ) (D : List (List Row)) (object : ℕ) → IsTable n D → depth ≤ n → Contains (objects_of D) object → stands D depth object ≡ true
    → Contains (seen_objects (nra_run_to D depth)) object
rows_see n depth D object t within here s =
    let from = stands_from D depth object s in
    let number = list_number D from.0 from.1 in
    let placed : place_in (list_at D number.0) object < depth = subst (λ rows. place_in rows object < depth) (sym number.2) from.2 in
    let front : Contains (objects (take depth (list_at D number.0))) object = front_of_place depth (list_at D number.0) object (objects_in_each n D number.0 object t number.1 here) placed in
    let read : sorted_rows number.0 (nra_run_to D depth) ≡ take depth (list_at D number.0) = run_rows n depth D number.0 t within number.1 in
    each_once_complete (filter_map sorted_object (nra_run_to D depth)) object (sorted_is_seen number.0 object (nra_run_to D depth) (subst (λ rows. Contains (objects rows) object) (sym read) front))

pub seen_there : (n depth : ℕ) (D : List (List Row)) (object : ℕ) → IsTable n D → depth ≤ n → Contains (seen_objects (nra_run_to D depth)) object
    → stands D depth object ≡ true
seen_there n depth D object t within c =
    let A : List Access = nra_run_to D depth in
    let from = access_from_seen A object c in
    let row : Row = record { object = object; grade = from.1 } in
    let l : from.0 < length D = agrees_in_range (length D) n D A (Sorted from.0 object from.1) (run_agrees n depth D t within) from.2 in
    let held : Contains (sorted_rows from.0 A) row = contains_filter_map (sorted_row from.0) A (Sorted from.0 object from.1) row from.2 (ap (λ b. cond b (Some row) None) (eq-eqb from.0 from.0 refl)) in
    let front : Contains (objects (take depth (list_at D from.0))) object = subst (λ rows. Contains (objects rows) object) (run_rows n depth D from.0 t within l) (object_of_row (sorted_rows from.0 A) row held) in
    stands_within D (list_at D from.0) depth object (list_at_contains D from.0 l) (place_of_front depth (list_at D from.0) object front)

pub seen_are_there : (n depth : ℕ) (D : List (List Row)) → IsTable n D → depth ≤ n → (object : ℕ)
    → Contains (seen_objects (nra_run_to D depth)) object ↔ Contains (objects_to D depth) object
seen_are_there n depth D t within object = (
  λ c. contains_filter (stands D depth) (objects_of D) object (seen_in_table (length D) n D (nra_run_to D depth) object (run_agrees n depth D t within) c) (seen_there n depth D object t within c),
  λ c. let kept = contains_from_filter (stands D depth) (objects_of D) object c in rows_see n depth D object t within kept.0 kept.1,
)

-- ---- what is known of a list that no random access asked is what its rows gave
given_by : (list : ℕ) (A : List Access) (a : Access) → Contains A a → list_of a ≡ list
    → Contains (objects (sorted_rows list A)) (object_of a) ⊎ Contains (random_rows list A) (row_of a)
given_by list A (Sorted other object grade) c e =
    let row : Row = record { object = object; grade = grade } in
    inl (object_of_row (sorted_rows list A) row (contains_filter_map (sorted_row list) A (Sorted other object grade) row c (ap (λ b. cond b (Some row) None) (eq-eqb other list e))))
given_by list A (Random other object grade) c e =
    let row : Row = record { object = object; grade = grade } in
    inr (contains_filter_map (random_row list) A (Random other object grade) row c (ap (λ b. cond b (Some row) None) (eq-eqb other list e)))

pub unread_unknown : (list : ℕ) (A : List Access) (object : ℕ) → random_rows list A ≡ [] → ¬ Contains (objects (sorted_rows list A)) object
    → known_grade A object list ≡ None
unread_unknown list A object none unread =
    grade_among_absent (given_rows list A) object (λ c.
    let at = contains_map_from (λ (row : Row). row.object) (given_rows list A) object c in
    let from = given_from list A at.0 at.1 in
    let same : object_of from.1 ≡ object = ap (λ (row : Row). row.object) from.5 ∙ at.2 in
    elim (given_by list A from.1 (subst (λ B. Contains B from.1) (sym from.3) (contains_middle from.0 from.1 from.2)) from.4) [
      | inl sorted ↦ unread (subst (λ o. Contains (objects (sorted_rows list A)) o) same sorted)
      | inr random ↦ contains_nil (row_of from.1) (subst (λ rows. Contains rows (row_of from.1)) none random)
    ])

pub read_known : (list : ℕ) (A : List Access) (object : ℕ) → Contains (objects (sorted_rows list A)) object → is_none (known_grade A object list) ≡ false
read_known list A object c =
    elim (cases_Bool (is_none (known_grade A object list))) [
      | inl t ↦ absurd (grade_among_none (sorted_rows list A) object (sorted_none list object A (none_if_is_none (known_grade A object list) t)) c)
      | inr f ↦ f
    ]

-- ---- no grade of an object is unknown
pub none_unknown : (m : ℕ) (A : List Access) (object : ℕ) → ((list : ℕ) → list < m → is_none (known_grade A object list) ≡ false)
    → unknown_lists m A object ≡ []
none_unknown m A object known =
    no_member (unknown_lists m A object) (λ list c.
    let kept = contains_from_filter (λ other. is_none (known_grade A object other)) (list_numbers m) list c in
    true≢false (sym kept.1 ∙ known list (number_below m list kept.0)))
  where
    no_member : (xs : List ℕ) → ((x : ℕ) → ¬ Contains xs x) → xs ≡ []
    no_member [] none = refl
    no_member (x ∷ xs) none = absurd (none x (contains_here x xs))

pub each_known : (m : ℕ) (A : List Access) (object list : ℕ) → unknown_lists m A object ≡ [] → list < m → is_none (known_grade A object list) ≡ false
each_known m A object list none l =
    elim (cases_Bool (is_none (known_grade A object list))) [
      | inl t ↦ absurd (contains_nil list (subst (λ xs. Contains xs list) none (contains_filter (λ other. is_none (known_grade A object other)) (list_numbers m) list (number_in m list l) t)))
      | inr f ↦ f
    ]

-- the rows down to a depth make all grades of an object known exactly where it stands there in every list
pub common_known : (n depth : ℕ) (D : List (List Row)) (object : ℕ) → IsTable n D → depth ≤ n → Contains (objects_of D) object
    → stands_in_all D depth object ≡ true → unknown_lists (length D) (nra_run_to D depth) object ≡ []
common_known n depth D object t within here all =
    none_unknown (length D) (nra_run_to D depth) object (λ list l.
    let placed : place_in (list_at D list) object < depth = ltb-true (place_in (list_at D list) object) depth (all_passes (λ rows. nat_lt (place_in rows object) depth) D (list_at D list) all (list_at_contains D list l)) in
    let front : Contains (objects (take depth (list_at D list))) object = front_of_place depth (list_at D list) object (objects_in_each n D list object t l here) placed in
    read_known list (nra_run_to D depth) object (subst (λ rows. Contains (objects rows) object) (sym (run_rows n depth D list t within l)) front))

pub known_common : (n depth : ℕ) (D : List (List Row)) (object : ℕ) → IsTable n D → depth ≤ n → unknown_lists (length D) (nra_run_to D depth) object ≡ []
    → stands_in_all D depth object ≡ true
known_common n depth D object t within none =
    list_all-from_AllPass (λ rows. nat_lt (place_in rows object) depth) D (all_from_members (λ rows. nat_lt (place_in rows object) depth ≡ true) D (λ rows c.
    let number = list_number D rows c in
    let placed : place_in (list_at D number.0) object < depth = in_front n depth D number.0 object t within number.1 (each_known (length D) (nra_run_to D depth) object number.0 none number.1) in
    lt-ltb (place_in rows object) depth (subst (λ r. place_in r object < depth) number.2 placed)))
  where
    in_front : (n depth : ℕ) (D : List (List Row)) (list object : ℕ) → IsTable n D → depth ≤ n → list < length D
        → is_none (known_grade (nra_run_to D depth) object list) ≡ false → place_in (list_at D list) object < depth
    in_front n depth D list object t within l known =
        elim (cases_Bool (nat_lt (place_in (list_at D list) object) depth)) [
          | inl lt ↦ ltb-true (place_in (list_at D list) object) depth lt
          | inr ge ↦ absurd (
              let unread : ¬ Contains (objects (sorted_rows list (nra_run_to D depth))) object = λ c.
              true≢false (sym (lt-ltb (place_in (list_at D list) object) depth (place_of_front depth (list_at D list) object (subst (λ rows. Contains (objects rows) object) (run_rows n depth D list t within l) c))) ∙ ge) in
              true≢false (ap (λ (o : Option ℕ). is_none o) (sym (unread_unknown list (nra_run_to D depth) object (run_random depth D list) unread)) ∙ known))
        ]

-- ---- so the transcript shows how many objects do
pub common_stands : (depth : ℕ) (D : List (List Row)) (object : ℕ) → 0 < length D → stands_in_all D depth object ≡ true → stands D depth object ≡ true
common_stands depth D object some all =
    let first : Contains D (list_at D 0) = list_at_contains D 0 some in
    stands_within D (list_at D 0) depth object first (ltb-true (place_in (list_at D 0) object) depth (all_passes (λ rows. nat_lt (place_in rows object) depth) D (list_at D 0) all first))

whole_is : (xs : List ℕ) → xs ≡ [] → (length xs == 0) ≡ true
whole_is xs e = ap (λ (ys : List ℕ). length ys == 0) e

is_whole : (xs : List ℕ) → (length xs == 0) ≡ true → xs ≡ []
is_whole [] e = refl
is_whole (x ∷ xs) e = let bad : length (x ∷ xs) ≡ 0 = eqb-true (length (x ∷ xs)) 0 e in absurd (omega arith)

pub whole_count : (n depth : ℕ) (D : List (List Row)) → IsTable n D → 0 < length D → depth ≤ n
    → known_whole (length D) (nra_run_to D depth) ≡ count_by (stands_in_all D depth) (objects_of D)
whole_count n depth D t some within =
    let A : List Access = nra_run_to D depth in
    let known : ℕ → Bool = λ object. length (unknown_lists (length D) A object) == 0 in
    let apart : List ℕ → Type 0 = AllPairs (λ (one other : ℕ). one ≢ other) in
    let seen_apart : apart (filter known (seen_objects A)) = AllPairs-filter (λ (one other : ℕ). one ≢ other) known (seen_objects A) (seen_distinct A) in
    let all_apart : apart (filter (stands_in_all D depth) (objects_of D)) = AllPairs-filter (λ (one other : ℕ). one ≢ other) (stands_in_all D depth) (objects_of D) (objects_of_distinct n D t) in
    let up : length (filter known (seen_objects A)) ≤ length (filter (stands_in_all D depth) (objects_of D)) =
    distinct_fits (filter known (seen_objects A)) (filter (stands_in_all D depth) (objects_of D)) seen_apart (λ o c.
    let kept = contains_from_filter known (seen_objects A) o c in
    contains_filter (stands_in_all D depth) (objects_of D) o (seen_in_table (length D) n D A o (run_agrees n depth D t within) kept.0) (known_common n depth D o t within (is_whole (unknown_lists (length D) A o) kept.1))) in
    let down : length (filter (stands_in_all D depth) (objects_of D)) ≤ length (filter known (seen_objects A)) =
    distinct_fits (filter (stands_in_all D depth) (objects_of D)) (filter known (seen_objects A)) all_apart (λ o c.
    let kept = contains_from_filter (stands_in_all D depth) (objects_of D) o c in
    contains_filter known (seen_objects A) o (rows_see n depth D o t within kept.0 (common_stands depth D o some kept.1)) (whole_is (unknown_lists (length D) A o) (common_known n depth D o t within kept.0 kept.1))) in
    let same : length (filter known (seen_objects A)) ≡ length (filter (stands_in_all D depth) (objects_of D)) = omega arith in
    sym (length-filter known (seen_objects A)) ∙ same ∙ length-filter (stands_in_all D depth) (objects_of D)

pub stop_shown : (k n depth : ℕ) (D : List (List Row)) → IsTable n D → 0 < length D → depth ≤ n
    → fa_stop k D depth ≡ nat_le k (known_whole (length D) (nra_run_to D depth))
stop_shown k n depth D t some within = ap (nat_le k) (sym (whole_count n depth D t some within))
