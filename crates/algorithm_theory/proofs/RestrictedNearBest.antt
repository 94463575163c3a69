-- The algorithm stops by the depth of a tame transcript that reads no list outside Z and fixes an answer, by k, or where all objects are
-- seen or answered.
use Rattle.std.proofs.Common.{◌≡◌, ◌≢◌, ℕ, ◌+◌, ◌-◌, ◌<◌, ◌≤◌, inl, inr, Bool, true, false, ◌||◌, cond, max, List, [], ◌++◌, length, map, take, drop, filter, AllPairs, Contains, sym, ap, subst, ◌∙◌, arith, count_by, nat_le, refl, length-append, length-take, take-append-drop, slice_index}
use Rattle.std.proofs.lemmas.Bool.{cases_lt, le-leb, true≢false}
use Rattle.std.proofs.lemmas.List.{length-take-le, map-append, get_or-map, get_or_past}
use Rattle.std.proofs.lemmas.List.Sums.{length-filter}
use Rattle.std.proofs.lemmas.List.FromFn.{length-range_with_len, get_or-map-range_with_len}
use Rattle.std.proofs.lemmas.List.Elements.{Contains-append_left, Contains-append_right}
use Rattle.ranked_list.specs.declared.row.Row.{Row}
use Rattle.ranked_list.specs.Table.{IsRanked, IsTable, objects, grade_in, place_in, top_grade}
use Rattle.topk_theory.specs.declared.access.Access.{Access}
use Rattle.monotone_fn.specs.Value.{IsMonotone}
use Rattle.topk_theory.specs.Aggregate.{objects_of, aggregate}
use Rattle.topk_theory.specs.Transcript.{Agrees, IsTame, last_grade, list_at, list_numbers, seen_objects, depth, depth_of, bottom_of}
use Rattle.topk_theory.specs.Bounds.{low, threshold}
use Rattle.topk_theory.specs.Adversary.{BoundsPart}
use Rattle.topk_theory.specs.Threshold.{IsAsked, row_at, stands}
use Rattle.topk_theory.proofs.AgreementLists.{member_of_all, distinct_fits}
use Rattle.topk_theory.proofs.AgreementRows.{list_at_contains, list_at_length, list_at_ranked}
use Rattle.topk_theory.proofs.Agreement.{objects_of_distinct, objects_of_count, depth_fits}
use Rattle.topk_theory.proofs.Adversary.{fixes_parts}
use Rattle.topk_theory.proofs.BoundsLaws.{low_holds, grades_by_number, zip_numbers}
use Rattle.topk_theory.proofs.ConsistentRows.{ranked_front}
use Rattle.topk_theory.proofs.ThresholdDepth.{table_holds}
use Rattle.topk_theory.proofs.ThresholdLists.{contains_filter}
use Rattle.topk_theory.proofs.ThresholdTables.{distinct_objects}
use Rattle.topk_theory.proofs.Unseen.{unseen_high, unseen_low}
use Rattle.ranked_list.proofs.RankLaws.{length-objects}
use Rattle.algorithm_theory.specs.Optimal.{FixesTamely, IsAlwaysRun}
use Rattle.algorithm_theory.proofs.NearBestDepths.{depth_above, depth_below, depth_seen, threshold_below, zeros_least}
use Rattle.algorithm_theory.proofs.Threshold.{outside_or_within, table_objects}
use Rattle.algorithm_theory.proofs.FaginCommon.{place_of_front}
use Rattle.algorithm_theory.specs.Restricted.{HasOne, part_in, taz_objects, taz_bottom, taz_threshold, has_enough, has_all, taz_stop, taz_depth, taz_run, ReadsIn, IsNearBestIn}
use Rattle.algorithm_theory.proofs.RestrictedLeast.{taz_depth_is_least}
use Rattle.algorithm_theory.proofs.RestrictedLists.{stands_by}
use Rattle.algorithm_theory.proofs.RestrictedRuns.{taz_run_depth}
use Rattle.algorithm_theory.proofs.RestrictedSeen.{seen_place}

-- ---- the algorithm stops by a depth down to which k objects stand that reach the threshold there
record Reaches (V : List ℕ → ℕ) (Z : ℕ → Bool) (D : List (List Row)) (at object : ℕ) : Type 0 where
  here : Contains (objects_of D) object
  stands_there : stands (part_in Z D) at object ≡ true
  least : taz_threshold V Z D at ≤ aggregate V D object

stops_with : (V : List ℕ → ℕ) (k : ℕ) (Z : ℕ → Bool) (D : List (List Row)) (at : ℕ) (Y : List ℕ) → AllPairs (λ (x : ℕ) (y : ℕ). x ≢ y) Y → k ≤ length Y
    → ((y : ℕ) → Contains Y y → Reaches V Z D at y) → taz_stop V k Z D at ≡ true
stops_with V k Z D at Y apart enough reach =
    let passes : ℕ → Bool = λ object. nat_le (taz_threshold V Z D at) (aggregate V D object) in
    let fits : length Y ≤ length (filter passes (taz_objects Z D at)) = distinct_fits Y (filter passes (taz_objects Z D at)) apart (λ y c.
    let r = reach y c in contains_filter passes (taz_objects Z D at) y (contains_filter (stands (part_in Z D) at) (objects_of D) y r.here r.stands_there) (le-leb (taz_threshold V Z D at) (aggregate V D y) r.least)) in
    let many : has_enough V k Z D at ≡ true = le-leb k (count_by passes (taz_objects Z D at)) (omega (arith, length-filter passes (taz_objects Z D at))) in
    ap (λ b. has_all Z D at || b) many ∙ or_true (has_all Z D at)
  where
    or_true : (b : Bool) → (b || true) ≡ true
    or_true true = refl
    or_true false = refl

-- ---- the threshold at a depth below the transcript's is no more than the transcript's
-- a grade at a place, as a value, is monotone; so what is so of thresholds is so of each bottom
grade_monotone : (list : ℕ) → IsMonotone (λ xs. slice_index xs list)
grade_monotone list xs ys h =
    elim (cases_lt list (length xs)) [
      | inl l ↦ h.each list l
      | inr ge ↦ (let past : slice_index xs list ≡ 0 = get_or_past xs list 0 ge in omega arith)
    ]

row_below : (m n : ℕ) (D : List (List Row)) (A : List Access) (list at : ℕ) → Agrees m n D A → list < m → 1 ≤ at → depth m A ≤ at
    → (row_at (list_at D list) at).grade ≤ bottom_of list A
row_below m n D A list at h l one deep =
    let lists : length D ≡ m = h.lists in
    let numbers : length (list_numbers m) ≡ m = length-range_with_len 0 m in
    let below : slice_index (map (λ rows. (row_at rows at).grade) D) list ≤ slice_index (map (λ i. bottom_of i A) (list_numbers m)) list =
    threshold_below (λ xs. slice_index xs list) m n D A at (grade_monotone list) h one deep in
    let row : slice_index (map (λ rows. (row_at rows at).grade) D) list ≡ (row_at (list_at D list) at).grade = get_or-map (λ (rows : List Row). (row_at rows at).grade) D list [] 0 (omega arith) in
    let bottom : slice_index (map (λ i. bottom_of i A) (list_numbers m)) list ≡ bottom_of list A = get_or-map-range_with_len (λ i. bottom_of i A) 0 m list list 0 l (omega arith) in
    omega arith

bottom_below : (m n : ℕ) (Z : ℕ → Bool) (D : List (List Row)) (A : List Access) (at list : ℕ) → Agrees m n D A → ReadsIn Z A → 1 ≤ at → depth m A ≤ at → list < m
    → taz_bottom Z D at list ≤ bottom_of list A
bottom_below m n Z D A at list h within one deep l = by_list (Z list) refl
  where
    by_list : (b : Bool) → Z list ≡ b → taz_bottom Z D at list ≤ bottom_of list A
    by_list true z =
        let own : taz_bottom Z D at list ≡ (row_at (list_at D list) at).grade = ap (λ b. cond b (row_at (list_at D list) at).grade top_grade) z in
        subst (λ g. g ≤ bottom_of list A) (sym own) (row_below m n D A list at h l one deep)
    by_list false z =
        let own : taz_bottom Z D at list ≡ top_grade = ap (λ b. cond b (row_at (list_at D list) at).grade top_grade) z in
        let unread : bottom_of list A ≡ top_grade = ap (last_grade top_grade) (within list z) in
        omega arith

threshold_under : (V : List ℕ → ℕ) (m n : ℕ) (Z : ℕ → Bool) (D : List (List Row)) (A : List Access) (at : ℕ) → IsMonotone V → Agrees m n D A → ReadsIn Z A
    → 1 ≤ at → depth m A ≤ at → taz_threshold V Z D at ≤ threshold V m A
threshold_under V m n Z D A at monotone h within one deep =
    subst (λ c. V (map (taz_bottom Z D at) (list_numbers c)) ≤ threshold V m A) (sym h.lists)
    (monotone _ _ (zip_numbers (taz_bottom Z D at) (λ list. bottom_of list A) m (λ list l. bottom_below m n Z D A at list h within one deep l)))

-- ---- each seen object stands down to each depth that isn't less than the transcript's
seen_stands : (m n : ℕ) (Z : ℕ → Bool) (D : List (List Row)) (A : List Access) (object at : ℕ) → Agrees m n D A → ReadsIn Z A → depth m A ≤ at
    → Contains (seen_objects A) object → stands (part_in Z D) at object ≡ true
seen_stands m n Z D A object at h within deep c =
    let placed = seen_place m n D A object h c in
    by_list placed.list placed.listed placed.placed (Z placed.list) refl
  where
    by_list : (list : ℕ) → list < m → place_in (list_at D list) object < depth_of list A → (b : Bool) → Z list ≡ b → stands (part_in Z D) at object ≡ true
    by_list list l placed true z =
        let le : depth_of list A ≤ depth m A = depth_above m A list l in
        stands_by Z D at object list (subst (λ c. list < c) (sym h.lists) l) z (omega arith)
    by_list list l placed false z = absurd (let none : depth_of list A ≡ 0 = ap length (within list z) in omega arith)

-- ---- so many objects stand in one list of Z down to a depth
abbrev first_objects : List (List Row) → ℕ → ℕ → List ℕ
first_objects D list at = objects (take at (list_at D list))

first_many : (n : ℕ) (D : List (List Row)) (list at : ℕ) → IsTable n D → list < length D → at ≤ n → length (first_objects D list at) ≡ at
first_many n D list at t l within = length-objects (take at (list_at D list)) ∙ length-take-le at (list_at D list) (let e = list_at_length n D list t l in omega arith)

first_apart : (n : ℕ) (D : List (List Row)) (list at : ℕ) → IsTable n D → list < length D → AllPairs (λ (x : ℕ) (y : ℕ). x ≢ y) (first_objects D list at)
first_apart n D list at t l =
    let rows : List Row = list_at D list in
    let ranked : IsRanked (take at rows ++ drop at rows) = subst IsRanked (sym (take-append-drop at rows)) (list_at_ranked n D list t l) in
    distinct_objects (take at rows) (ranked_front (take at rows) (drop at rows) ranked).distinct

first_there : (n : ℕ) (D : List (List Row)) (list at object : ℕ) → IsTable n D → list < length D → Contains (first_objects D list at) object → Contains (objects_of D) object
first_there n D list at object t l c =
    table_holds n D (list_at D list) object t (list_at_contains D list l) (from_front at (list_at D list) object c)
  where
    from_front : (at : ℕ) (rows : List Row) (object : ℕ) → Contains (objects (take at rows)) object → Contains (objects rows) object
    from_front at rows object c =
        subst (λ os. Contains os object) (sym (ap objects (sym (take-append-drop at rows)) ∙ objects_split (take at rows) (drop at rows))) (Contains-append_left (objects (take at rows)) (objects (drop at rows)) object c)
      where
        objects_split : (xs ys : List Row) → objects (xs ++ ys) ≡ objects xs ++ objects ys
        objects_split xs ys = map-append (λ (row : Row). row.object) xs ys

-- ---- where some unseen object is outside the answer, each object of the answer reaches the threshold of the transcript
record AtThreshold (V : List ℕ → ℕ) (k m n : ℕ) (Z : ℕ → Bool) (D : List (List Row)) (A : List Access) (Y : List ℕ) : Type 0 where
  agrees : Agrees m n D A
  tame : IsTame A
  within : ReadsIn Z A
  sized : length Y ≡ k
  distinct : AllPairs (λ (x : ℕ) (y : ℕ). x ≢ y) Y
  members : (y : ℕ) → Contains Y y → Contains (objects_of D) y
  reach : (y : ℕ) → Contains Y y → threshold V m A ≤ low V m A y

at_threshold : (V : List ℕ → ℕ) (k m n : ℕ) (Z : ℕ → Bool) (D : List (List Row)) (A : List Access) (Y : List ℕ) (outside : ℕ) → 0 < m
    → FixesTamely V k m n D A Y → ReadsIn Z A → Contains (objects_of D) outside → (¬ Contains (seen_objects A) outside) → (¬ Contains Y outside)
    → AtThreshold V k m n Z D A Y
at_threshold V k m n Z D A Y outside some h within here unseen out =
    let parts : BoundsPart V k m (objects_of D) A Y = fixes_parts V k m n (objects_of D) A Y some (D, h.agrees) (table_objects m n D A some h.agrees) h.fixes in
    record {
      agrees = h.agrees;
      tame = h.tame;
      within = within;
      sized = parts.sized;
      distinct = parts.distinct;
      members = λ y c. member_of_all (Contains (objects_of D)) Y y parts.members c;
      reach = λ y c. subst (λ bound. bound ≤ low V m A y) (unseen_high V m A outside h.tame unseen) (parts.part y outside c here out);
    }

zeros_below : (V : List ℕ → ℕ) (m : ℕ) (D : List (List Row)) (object : ℕ) → IsMonotone V → length D ≡ m
    → V (map (λ list. 0) (list_numbers m)) ≤ aggregate V D object
zeros_below V m D object monotone sized = rw (grades_by_number m D object sized) (zeros_least V m (λ list. grade_in (list_at D list) object) monotone)

-- the algorithm then stops at each depth that is no less than the transcript's and no less than k
stops_at_threshold : (V : List ℕ → ℕ) (k m n : ℕ) (Z : ℕ → Bool) (D : List (List Row)) (A : List Access) (Y : List ℕ) (at : ℕ) → IsMonotone V
    → HasOne Z (length D) → 1 ≤ k → k ≤ at → at ≤ n → depth m A ≤ at → AtThreshold V k m n Z D A Y → taz_stop V k Z D at ≡ true
stops_at_threshold V k m n Z D A Y at monotone one positive many within deep h =
    let under : taz_threshold V Z D at ≤ threshold V m A = threshold_under V m n Z D A at monotone h.agrees h.within (omega arith) deep in
    elim (outside_or_within Y (seen_objects A)) [
      | inr all ↦ stops_with V k Z D at Y h.distinct (let e : length Y ≡ k = h.sized in omega arith) (λ y c. record {
        here = h.members y c;
        stands_there = seen_stands m n Z D A y at h.agrees h.within deep (all y c);
        least = let reach = h.reach y c in
            let holds : low V m A y ≤ aggregate V D y = low_holds V m n D A y monotone h.agrees in
            omega arith;
      })
      | inl new ↦ stops_with V k Z D at (first_objects D one.list at) (first_apart n D one.list at h.agrees.table one.listed)
          (omega (arith, first_many n D one.list at h.agrees.table one.listed within)) (λ object c. record {
            here = first_there n D one.list at object h.agrees.table one.listed c;
            stands_there = stands_by Z D at object one.list one.listed one.sorted (place_of_front at (list_at D one.list) object c);
            least = let reach : threshold V m A ≤ low V m A new.0 = h.reach new.0 new.1 in
                let zeros : low V m A new.0 ≡ V (map (λ list. 0) (list_numbers m)) = unseen_low V m A new.0 h.tame new.2 in
                let least : V (map (λ list. 0) (list_numbers m)) ≤ aggregate V D object = zeros_below V m D object monotone h.agrees.lists in
                omega arith;
          })
    ]

-- ---- the algorithm reads no deeper than the objects that the transcript sees, and k more
pub taz_stops_in_time : (V : List ℕ → ℕ) (k m n : ℕ) (Z : ℕ → Bool) (D : List (List Row)) (A : List Access) (Y : List ℕ) → IsMonotone V → IsAsked k n D → HasOne Z m
    → FixesTamely V k m n D A Y → ReadsIn Z A → taz_depth V k Z D ≤ length (seen_objects A) + k
taz_stops_in_time V k m n Z D A Y monotone asked one h reads =
    let own : HasOne Z (length D) = subst (HasOne Z) (sym h.agrees.lists) one in
    let least = taz_depth_is_least V k n Z D asked own in
    let within : taz_depth V k Z D ≤ n = least.within in
    let some : 0 < m = subst (λ count. 0 < count) h.agrees.lists asked.lists in
    let positive : 1 ≤ k = asked.positive in
    let fits : k ≤ n = asked.fits in
    let count : length (objects_of D) ≡ n = objects_of_count n D asked.table asked.lists in
    elim (outside_or_within (objects_of D) (seen_objects A ++ Y)) [
      | inr all ↦
          let all_fit : length (objects_of D) ≤ length (seen_objects A ++ Y) = distinct_fits (objects_of D) (seen_objects A ++ Y) (objects_of_distinct n D asked.table) all in
          let sized : length Y ≡ k = h.fixes.sized in
          omega (arith, length-append (seen_objects A) Y)
      | inl new ↦
          let at : ℕ = max (depth m A) k in
          let deep : depth m A ≤ n = depth_below m A n (λ list l. depth_fits m n D A list h.agrees l) in
          let seen : depth m A ≤ length (seen_objects A) = depth_seen m n D A h.agrees in
          let ready : AtThreshold V k m n Z D A Y = at_threshold V k m n Z D A Y new.0 some h reads new.1 (λ c. new.2 (Contains-append_left (seen_objects A) Y new.0 c)) (λ c. new.2 (Contains-append_right (seen_objects A) Y new.0 c)) in
          let stops : taz_stop V k Z D at ≡ true = stops_at_threshold V k m n Z D A Y at monotone own positive (omega arith) (omega arith) (omega arith) ready in
          let by : taz_depth V k Z D ≤ at =
          elim (cases_lt at (taz_depth V k Z D)) [
            | inl l ↦ absurd (true≢false (sym stops ∙ least.least at (omega arith) l))
            | inr le ↦ le
          ] in
          omega arith
    ]

-- ---- a transcript that is the algorithm's run on every table that agrees with it
pub taz_near_best : (V : List ℕ → ℕ) (k m n : ℕ) (Z : ℕ → Bool) (B : List Access) → IsMonotone V → HasOne Z m → IsAlwaysRun (taz_run V k Z) k m n B
    → IsNearBestIn V k m n Z B
taz_near_best V k m n Z B monotone one h = record {
  bounded = λ D A Y agrees fixes reads.
      let asked : IsAsked k n D = record { table = agrees.table; lists = subst (λ count. 0 < count) (sym agrees.lists) h.lists; positive = h.positive; fits = h.fits } in
      let own : HasOne Z (length D) = subst (HasOne Z) (sym agrees.lists) one in
      let deep : depth m B ≡ taz_depth V k Z D = ap (depth m) (h.always D agrees) ∙ ap (λ count. depth count (taz_run V k Z D)) (sym agrees.lists) ∙ taz_run_depth V k n Z D asked own in
      let le : taz_depth V k Z D ≤ length (seen_objects A) + k = taz_stops_in_time V k m n Z D A Y monotone asked one fixes reads in
      omega arith;
}
