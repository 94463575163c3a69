-- The threshold algorithm stops, and where it stops first.
use Rattle.std.proofs.Common.{◌≡◌, ℕ, zero, suc, ◌+◌, ◌-◌, ◌<◌, ◌≤◌, inl, inr, Bool, true, false, cond, List, [], ◌∷◌, length, map, All, Contains, slice_index_or, sym, ap, ◌∙◌, arith, count_by, nat_le, nat_lt}
use Rattle.std.proofs.lemmas.Bool.{cases_Bool, cases_order, le-leb, lt-ltb, ltb-true, ltb-false}
use Rattle.ranked_list.specs.declared.row.Row.{Row}
use Rattle.ranked_list.specs.Table.{objects, IsRanked, IsTable, place_in, grade_in}
use Rattle.monotone_fn.specs.Value.{IsMonotone}
use Rattle.topk_theory.specs.Aggregate.{objects_of, grades_of, aggregate}
use Rattle.topk_theory.specs.Threshold.{row_at, stands, objects_to, threshold_at, ta_stop, least_from, ta_depth, IsLeastDepth}
use Rattle.topk_theory.proofs.AgreementLists.{contains_nil, contains_here, member_of_all}
use Rattle.topk_theory.proofs.ThresholdLists.{filter_all, count_all, any_from_member, member_from_any, none_from_any, no_smaller_map}
use Rattle.ranked_list.proofs.RankLaws.{no_row}
use Rattle.topk_theory.proofs.ThresholdTables.{place_in-lt, grade_in-at_place}
use Rattle.topk_theory.proofs.Agreement.{objects_of_count}

-- the least number that passes a test
pub least_here : (p : ℕ → Bool) (more start : ℕ) → p start ≡ true → least_from p (suc more) start ≡ start
least_here p more start t = ap (λ b. cond b start (least_from p more (start + 1))) t

pub least_later : (p : ℕ → Bool) (more start : ℕ) → p start ≡ false → least_from p (suc more) start ≡ least_from p more (start + 1)
least_later p more start f = ap (λ b. cond b start (least_from p more (start + 1))) f

pub least_from-start : (p : ℕ → Bool) (more start : ℕ) → start ≤ least_from p more start
least_from-start p zero start = omega arith
least_from-start p (suc more) start =
    elim (cases_Bool (p start)) [
      | inl t ↦ omega (arith, least_here p more start t)
      | inr f ↦ omega (arith, least_later p more start f, least_from-start p more (start + 1))
    ]

pub least_from-end : (p : ℕ → Bool) (more start : ℕ) → least_from p more start ≤ start + more
least_from-end p zero start = omega arith
least_from-end p (suc more) start =
    elim (cases_Bool (p start)) [
      | inl t ↦ omega (arith, least_here p more start t)
      | inr f ↦ omega (arith, least_later p more start f, least_from-end p more (start + 1))
    ]

pub least_from-passes : (p : ℕ → Bool) (more start : ℕ) → p (start + more) ≡ true → p (least_from p more start) ≡ true
least_from-passes p zero start h = let e : start + 0 ≡ start = omega arith in ap p (sym e) ∙ h
least_from-passes p (suc more) start h =
    elim (cases_Bool (p start)) [
      | inl t ↦ ap p (least_here p more start t) ∙ t
      | inr f ↦ let e : start + 1 + more ≡ start + suc more = omega arith in ap p (least_later p more start f) ∙ least_from-passes p more (start + 1) (ap p e ∙ h)
    ]

pub least_from-before : (p : ℕ → Bool) (more start other : ℕ) → start ≤ other → other < least_from p more start → p other ≡ false
least_from-before p zero start other l h = absurd (omega arith)
least_from-before p (suc more) start other l h =
    elim (cases_Bool (p start)) [
      | inl t ↦ absurd (omega (arith, least_here p more start t))
      | inr f ↦ elim (cases_order start other) [
        | inl e ↦ ap p (sym e) ∙ f
        | inr r ↦ least_from-before p more (start + 1) other (elim r [ inl lt ↦ omega arith | inr gt ↦ absurd (omega arith) ]) (omega (arith, least_later p more start f))
      ]
    ]

-- the lists of a table
pub list_sized : (n : ℕ) (D : List (List Row)) (rows : List Row) → IsTable n D → Contains D rows → length rows ≡ n
list_sized n D rows t h = member_of_all (λ (rows : List Row). length rows ≡ n) D rows t.sized h

pub list_ranked : (n : ℕ) (D : List (List Row)) (rows : List Row) → IsTable n D → Contains D rows → IsRanked rows
list_ranked n D rows t h = member_of_all IsRanked D rows t.ranked h

pub list_holds : (n : ℕ) (D : List (List Row)) (rows : List Row) (object : ℕ) → IsTable n D → Contains D rows → Contains (objects_of D) object
    → Contains (objects rows) object
list_holds n [] rows object t h o = absurd (contains_nil object o)
list_holds n (first ∷ lists) rows object t h o =
    member_of_all (λ (others : List Row). (object : ℕ) → Contains (objects first) object → Contains (objects others) object) (first ∷ lists) rows
    (member_of_all (λ (some : List Row). All (λ (others : List Row). (object : ℕ) → Contains (objects some) object → Contains (objects others) object) (first ∷ lists)) (first ∷ lists) first t.same (contains_here first lists)) h object o

pub table_holds : (n : ℕ) (D : List (List Row)) (rows : List Row) (object : ℕ) → IsTable n D → Contains D rows → Contains (objects rows) object
    → Contains (objects_of D) object
table_holds n [] rows object t h o = absurd (contains_nil rows h)
table_holds n (first ∷ lists) rows object t h o =
    member_of_all (λ (others : List Row). (object : ℕ) → Contains (objects rows) object → Contains (objects others) object) (first ∷ lists) first
    (member_of_all (λ (some : List Row). All (λ (others : List Row). (object : ℕ) → Contains (objects some) object → Contains (objects others) object) (first ∷ lists)) (first ∷ lists) rows t.same h) (contains_here first lists) object o

pub place_within : (n : ℕ) (D : List (List Row)) (rows : List Row) (object : ℕ) → IsTable n D → Contains D rows → Contains (objects_of D) object
    → place_in rows object < n
place_within n D rows object t h o = omega (arith, place_in-lt rows object (list_holds n D rows object t h o), list_sized n D rows t h)

-- grades never rise from the top down
pub grades_fall : (rows : List Row) (i j : ℕ) (d : Row) → IsRanked rows → i ≤ j → j < length rows
    → (slice_index_or rows j d).grade ≤ (slice_index_or rows i d).grade
grades_fall rows i j d r le l =
    elim (cases_order i j) [
      | inl e ↦ let same : (slice_index_or rows i d).grade ≡ (slice_index_or rows j d).grade = ap (λ p. (slice_index_or rows p d).grade) e in omega arith
      | inr r' ↦ elim r' [ inl lt ↦ r.falling i j d lt l | inr gt ↦ absurd (omega arith) ]
    ]

-- against the grade at a depth
pub grade_above : (n : ℕ) (D : List (List Row)) (rows : List Row) (object depth : ℕ) → IsTable n D → Contains D rows → Contains (objects_of D) object
    → depth ≤ n → place_in rows object < depth → (row_at rows depth).grade ≤ grade_in rows object
grade_above n D rows object depth t h o within above =
    let long : length rows ≡ n = list_sized n D rows t h in
    let fall : (slice_index_or rows (depth - 1) no_row).grade ≤ (slice_index_or rows (place_in rows object) no_row).grade = grades_fall rows (place_in rows object) (depth - 1) no_row (list_ranked n D rows t h) (omega arith) (omega arith) in
    omega (arith, grade_in-at_place rows object no_row (place_in-lt rows object (list_holds n D rows object t h o)))

pub grade_below : (n : ℕ) (D : List (List Row)) (rows : List Row) (object depth : ℕ) → IsTable n D → Contains D rows → Contains (objects_of D) object
    → 1 ≤ depth → depth ≤ place_in rows object → grade_in rows object ≤ (row_at rows depth).grade
grade_below n D rows object depth t h o positive below =
    let placed : place_in rows object < length rows = place_in-lt rows object (list_holds n D rows object t h o) in
    let fall : (slice_index_or rows (place_in rows object) no_row).grade ≤ (slice_index_or rows (depth - 1) no_row).grade = grades_fall rows (depth - 1) (place_in rows object) no_row (list_ranked n D rows t h) (omega arith) placed in
    omega (arith, grade_in-at_place rows object no_row placed)

-- an object that stands in no list down to a depth has an aggregate of at most the threshold there
pub unseen_at_most : (V : List ℕ → ℕ) (n : ℕ) (D : List (List Row)) (object depth : ℕ) → IsMonotone V → IsTable n D → Contains (objects_of D) object
    → 1 ≤ depth → stands D depth object ≡ false → aggregate V D object ≤ threshold_at V D depth
unseen_at_most V n D object depth monotone t o positive unseen =
    monotone (grades_of D object) (map (λ (rows : List Row). (row_at rows depth).grade) D)
    (no_smaller_map (λ (rows : List Row). grade_in rows object) (λ (rows : List Row). (row_at rows depth).grade) D
    (λ rows h. grade_below n D rows object depth t h o positive (ltb-false (place_in rows object) depth (none_from_any (λ (rows : List Row). nat_lt (place_in rows object) depth) D rows unseen h))))

-- an object that stands in each list down to a depth has at least that aggregate
pub seen_at_least : (V : List ℕ → ℕ) (n : ℕ) (D : List (List Row)) (object depth : ℕ) → IsMonotone V → IsTable n D → Contains (objects_of D) object → depth ≤ n
    → ((rows : List Row) → Contains D rows → place_in rows object < depth) → threshold_at V D depth ≤ aggregate V D object
seen_at_least V n D object depth monotone t o within above =
    monotone (map (λ (rows : List Row). (row_at rows depth).grade) D) (grades_of D object)
    (no_smaller_map (λ (rows : List Row). (row_at rows depth).grade) (λ (rows : List Row). grade_in rows object) D
    (λ rows h. grade_above n D rows object depth t h o within (above rows h)))

pub stands_within : (D : List (List Row)) (rows : List Row) (depth object : ℕ) → Contains D rows → place_in rows object < depth → stands D depth object ≡ true
stands_within D rows depth object h l = any_from_member (λ (rows : List Row). nat_lt (place_in rows object) depth) D rows h (lt-ltb (place_in rows object) depth l)

pub stands_from : (D : List (List Row)) (depth object : ℕ) → stands D depth object ≡ true → (rows : List Row) × Contains D rows × (place_in rows object < depth)
stands_from D depth object s = let f = member_from_any (λ (rows : List Row). nat_lt (place_in rows object) depth) D s in (f.0, f.1, ltb-true (place_in f.0 object) depth f.2)

first_list : (D : List (List Row)) → 0 < length D → (rows : List Row) × Contains D rows
first_list [] l = absurd (omega arith)
first_list (first ∷ lists) l = (first, contains_here first lists)

-- down to the last depth all objects stand
pub rows_to_last : (n : ℕ) (D : List (List Row)) → IsTable n D → 0 < length D → objects_to D n ≡ objects_of D
rows_to_last n D t l =
    filter_all (stands D n) (objects_of D) (λ object o. let first = first_list D l in stands_within D first.0 n object first.1 (place_within n D first.0 object t first.1 o))

-- the algorithm stops at the last depth at the latest
pub stops_at_last : (V : List ℕ → ℕ) (k n : ℕ) (D : List (List Row)) → IsMonotone V → IsTable n D → 0 < length D → k ≤ n → ta_stop V k D n ≡ true
stops_at_last V k n D monotone t l fits =
    let passes = λ (object : ℕ). nat_le (threshold_at V D n) (aggregate V D object) in
    let counted : count_by passes (objects_to D n) ≡ n =
    ap (count_by passes) (rows_to_last n D t l)
    ∙ count_all passes (objects_of D) (λ object o. le-leb (threshold_at V D n) (aggregate V D object) (seen_at_least V n D object n monotone t o (omega arith) (λ rows h. place_within n D rows object t h o)))
    ∙ objects_of_count n D t l in
    le-leb k (count_by passes (objects_to D n)) (omega arith)

-- the depth of the algorithm is the least at which it stops
pub ta_depth_is_least : (V : List ℕ → ℕ) (k n : ℕ) (D : List (List Row)) → IsMonotone V → IsTable n D → 0 < length D → 1 ≤ k → k ≤ n
    → IsLeastDepth V k n D (ta_depth V k D)
ta_depth_is_least V k n D monotone t l positive fits =
    let long : length (objects_of D) ≡ n = objects_of_count n D t l in
    let more : ℕ = length (objects_of D) - 1 in
    let last : 1 + more ≡ n = omega arith in
    record {
      from_one = least_from-start (ta_stop V k D) more 1;
      within = omega (arith, least_from-end (ta_stop V k D) more 1);
      stops = least_from-passes (ta_stop V k D) more 1 (ap (ta_stop V k D) last ∙ stops_at_last V k n D monotone t l fits);
      least = λ other from below. least_from-before (ta_stop V k D) more 1 other from below;
    }
