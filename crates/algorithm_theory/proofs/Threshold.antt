-- The threshold algorithm stops by the depth of a tame transcript that fixes an answer, by k, or where all objects are seen or answered.
use Rattle.std.proofs.Common.{◌≡◌, ◌≢◌, ℕ, suc, ◌+◌, ◌-◌, ◌<◌, ◌≤◌, ◌⊎◌, inl, inr, true, not, max, List, ◌++◌, length, map, take, drop, filter, AllPairs, Contains, slice_index_or, sym, ap, subst, ◌∙◌, arith, count_by, nat_le, length-append, length-take, take-append-drop}
use Rattle.std.specs.List.{list_any}
use Rattle.std.proofs.lemmas.Bool.{cases_Bool, cases_lt, le-leb, not-true, true≢false}
use Rattle.std.proofs.lemmas.List.{length-take-le, get_or-take, get_or_default}
use Rattle.std.proofs.lemmas.List.Sums.{length-filter}
use Rattle.std.proofs.lemmas.List.Elements.{Contains-append_left, Contains-append_right}
use Rattle.ranked_list.specs.declared.row.Row.{Row}
use Rattle.ranked_list.specs.Table.{IsRanked, IsTable, objects, grade_in}
use Rattle.topk_theory.specs.declared.access.Access.{Access}
use Rattle.monotone_fn.specs.Value.{IsMonotone}
use Rattle.topk_theory.specs.Aggregate.{objects_of, aggregate}
use Rattle.topk_theory.specs.Transcript.{Agrees, IsTame, list_at, list_numbers, seen_objects, named_objects, depth}
use Rattle.topk_theory.specs.Bounds.{low, threshold}
use Rattle.topk_theory.specs.Adversary.{MayBeObjects, BoundsPart}
use Rattle.topk_theory.specs.Threshold.{IsAsked, IsLeastDepth, row_at, stands, objects_to, threshold_at, ta_stop, ta_depth}
use Rattle.topk_theory.proofs.AgreementLists.{contains_map_from, all_from_members, member_of_all, distinct_fits}
use Rattle.topk_theory.proofs.AgreementNames.{has, has_contains, has_not}
use Rattle.topk_theory.proofs.AgreementRows.{list_at_contains, list_at_length, list_at_ranked}
use Rattle.topk_theory.proofs.Agreement.{named_in_table, objects_of_distinct, objects_of_count, depth_fits}
use Rattle.topk_theory.proofs.Adversary.{fixes_parts}
use Rattle.topk_theory.proofs.BoundsLaws.{low_holds, grades_by_number}
use Rattle.topk_theory.proofs.ConsistentRows.{ranked_front}
use Rattle.topk_theory.proofs.ThresholdDepth.{table_holds}
use Rattle.topk_theory.proofs.ThresholdLaws.{least_depth}
use Rattle.topk_theory.proofs.ThresholdLists.{contains_filter, member_from_any, none_from_any}
use Rattle.topk_theory.proofs.ThresholdRun.{object_stands, row_object}
use Rattle.ranked_list.proofs.RankLaws.{length-objects}
use Rattle.topk_theory.proofs.ThresholdTables.{distinct_objects}
use Rattle.algorithm_theory.specs.Optimal.{FixesTamely}
use Rattle.topk_theory.proofs.Unseen.{unseen_high, unseen_low}
use Rattle.algorithm_theory.proofs.NearBestDepths.{depth_below, depth_seen, seen_stands_below, threshold_below, zeros_least}

-- some member is outside another list, or all of them are in it
pub outside_or_within : (xs ys : List ℕ) → ((x : ℕ) × Contains xs x × (¬ Contains ys x)) ⊎ ((x : ℕ) → Contains xs x → Contains ys x)
outside_or_within xs ys =
    elim (cases_Bool (list_any (λ x. not (has x ys)) xs)) [
      | inl t ↦ let one = member_from_any (λ x. not (has x ys)) xs t in inl (one.0, one.1, has_not one.0 ys (not-true (has one.0 ys) one.2))
      | inr f ↦ inr (λ x c. elim (cases_Bool (has x ys)) [
        | inl t ↦ has_contains x ys t
        | inr g ↦ absurd (true≢false (sym (ap not g) ∙ none_from_any (λ y. not (has y ys)) xs x f c))
      ])
    ]

-- the objects of an agreeing table may be those over which the transcript fixes something
pub table_objects : (m n : ℕ) (D : List (List Row)) (A : List Access) → 0 < m → Agrees m n D A → MayBeObjects n A (objects_of D)
table_objects m n D A some h = record {
  is_set = record { sized = objects_of_count n D h.table (subst (λ k. 0 < k) (sym h.lists) some); distinct = objects_of_distinct n D h.table };
  named = all_from_members (Contains (objects_of D)) (named_objects A) (λ object c. named_in_table m n D A object h c);
}

-- the algorithm stops by a depth down to which k objects stand that reach the threshold there
pub record Reaches (V : List ℕ → ℕ) (D : List (List Row)) (at object : ℕ) : Type 0 where
  pub here : Contains (objects_of D) object
  pub stands : stands D at object ≡ true
  pub least : threshold_at V D at ≤ aggregate V D object

stops_with : (V : List ℕ → ℕ) (k : ℕ) (D : List (List Row)) (at : ℕ) (Z : List ℕ) → AllPairs (λ (x : ℕ) (y : ℕ). x ≢ y) Z → k ≤ length Z
    → ((z : ℕ) → Contains Z z → Reaches V D at z) → ta_stop V k D at ≡ true
stops_with V k D at Z apart enough reach =
    let passes = λ (object : ℕ). nat_le (threshold_at V D at) (aggregate V D object) in
    let fits : length Z ≤ length (filter passes (objects_to D at)) = distinct_fits Z (filter passes (objects_to D at)) apart (λ z c.
    let r = reach z c in contains_filter passes (objects_to D at) z (contains_filter (stands D at) (objects_of D) z r.here r.stands) (le-leb (threshold_at V D at) (aggregate V D z) r.least)) in
    le-leb k (count_by passes (objects_to D at)) (omega (arith, length-filter passes (objects_to D at)))

least_by : (V : List ℕ → ℕ) (k n : ℕ) (D : List (List Row)) (at : ℕ) → IsLeastDepth V k n D (ta_depth V k D) → 1 ≤ at
    → ta_stop V k D at ≡ true → ta_depth V k D ≤ at
least_by V k n D at least one stops =
    elim (cases_lt at (ta_depth V k D)) [
      | inl l ↦ absurd (true≢false (sym stops ∙ least.least at one l))
      | inr le ↦ le
    ]

-- so many objects stand in the first list down to a depth
abbrev first_objects : List (List Row) → ℕ → List ℕ
first_objects D at = objects (take at (list_at D 0))

first_many : (n : ℕ) (D : List (List Row)) (at : ℕ) → IsTable n D → 0 < length D → at ≤ n → length (first_objects D at) ≡ at
first_many n D at table some within = length-objects (take at (list_at D 0)) ∙ length-take-le at (list_at D 0) (let e = list_at_length n D 0 table some in omega arith)

first_apart : (n : ℕ) (D : List (List Row)) (at : ℕ) → IsTable n D → 0 < length D → AllPairs (λ (x : ℕ) (y : ℕ). x ≢ y) (first_objects D at)
first_apart n D at table some =
    let rows = list_at D 0 in
    let ranked : IsRanked (take at rows ++ drop at rows) = subst IsRanked (sym (take-append-drop at rows)) (list_at_ranked n D 0 table some) in
    distinct_objects (take at rows) (ranked_front (take at rows) (drop at rows) ranked).distinct

take_short : (rows : List Row) (at place : ℕ) → place < length (take at rows) → place < at
take_short rows at place l = omega (arith, length-take at rows)

read_at : (rows : List Row) (at place : ℕ) (row d : Row) → place < length (take at rows) → slice_index_or (take at rows) place row ≡ row
    → place < length rows → slice_index_or rows place d ≡ row
read_at rows at place row d l e m = get_or_default rows place d row m ∙ sym (get_or-take at rows place row (take_short rows at place l)) ∙ e

first_stands : (n : ℕ) (D : List (List Row)) (at object : ℕ) → IsTable n D → 0 < length D → at ≤ n → Contains (first_objects D at) object
    → Contains (objects_of D) object × (stands D at object ≡ true)
first_stands n D at object table some within c =
    let rows = list_at D 0 in
    let member : Contains D rows = list_at_contains D 0 some in
    let from = contains_map_from (λ (row : Row). row.object) (take at rows) object c in
    let size : length (take at rows) ≡ at = length-take-le at rows (let e = list_at_length n D 0 table some in omega arith) in
    let place : ℕ = from.1.0 in
    let in_range : place < length (take at rows) = from.1.1 in
    let long : length rows ≡ n = list_at_length n D 0 table some in
    let same : slice_index_or rows place (record { object = 0; grade = 0 }) ≡ from.0 = read_at rows at place from.0 (record { object = 0; grade = 0 }) in_range from.1.2 (omega arith) in
    let next : suc place - 1 ≡ place = omega arith in
    let row_is : (row_at rows (suc place)).object ≡ object = ap (λ p. (slice_index_or rows p (record { object = 0; grade = 0 })).object) next ∙ ap (λ (row : Row). row.object) same ∙ from.2 in (
      subst (λ o. Contains (objects_of D) o) row_is (table_holds n D rows (row_at rows (suc place)).object table member (row_object n D rows (suc place) table member (omega arith) (omega arith))),
      subst (λ o. stands D at o ≡ true) row_is (object_stands n D rows (suc place) at table member (omega arith) (omega arith) (omega arith)),
    )

-- where some unseen object is outside the answer, each object of the answer reaches the threshold of the transcript
record AtThreshold (V : List ℕ → ℕ) (k m n : ℕ) (D : List (List Row)) (A : List Access) (Y : List ℕ) : Type 0 where
  agrees : Agrees m n D A
  tame : IsTame A
  sized : length Y ≡ k
  distinct : AllPairs (λ (x : ℕ) (y : ℕ). x ≢ y) Y
  members : (y : ℕ) → Contains Y y → Contains (objects_of D) y
  reach : (y : ℕ) → Contains Y y → threshold V m A ≤ low V m A y

at_threshold : (V : List ℕ → ℕ) (k m n : ℕ) (D : List (List Row)) (A : List Access) (Y : List ℕ) (outside : ℕ) → 0 < m
    → FixesTamely V k m n D A Y → Contains (objects_of D) outside → (¬ Contains (seen_objects A) outside) → (¬ Contains Y outside)
    → AtThreshold V k m n D A Y
at_threshold V k m n D A Y outside some h here unseen out =
    let parts : BoundsPart V k m (objects_of D) A Y = fixes_parts V k m n (objects_of D) A Y some (D, h.agrees) (table_objects m n D A some h.agrees) h.fixes in
    record {
      agrees = h.agrees;
      tame = h.tame;
      sized = parts.sized;
      distinct = parts.distinct;
      members = λ y c. member_of_all (Contains (objects_of D)) Y y parts.members c;
      reach = λ y c. subst (λ bound. bound ≤ low V m A y) (unseen_high V m A outside h.tame unseen) (parts.part y outside c here out);
    }

-- the algorithm then stops at each depth that is no less than the transcript's and no less than k
stops_at_threshold : (V : List ℕ → ℕ) (k m n : ℕ) (D : List (List Row)) (A : List Access) (Y : List ℕ) (at : ℕ) → IsMonotone V → 0 < m
    → 1 ≤ k → k ≤ at → at ≤ n → depth m A ≤ at → AtThreshold V k m n D A Y → ta_stop V k D at ≡ true
stops_at_threshold V k m n D A Y at monotone some one many within deep h =
    let under : threshold_at V D at ≤ threshold V m A = threshold_below V m n D A at monotone h.agrees (omega arith) deep in
    let lists : 0 < length D = subst (λ count. 0 < count) (sym h.agrees.lists) some in
    elim (outside_or_within Y (seen_objects A)) [
      | inr all ↦ stops_with V k D at Y h.distinct (let e : length Y ≡ k = h.sized in omega arith) (λ y c. record {
        here = h.members y c;
        stands = seen_stands_below m n D A y at h.agrees deep (all y c);
        least = let reach = h.reach y c in
            let holds : low V m A y ≤ aggregate V D y = low_holds V m n D A y monotone h.agrees in
            omega arith;
      })
      | inl new ↦ stops_with V k D at (first_objects D at) (first_apart n D at h.agrees.table lists) (omega (arith, first_many n D at h.agrees.table lists within)) (λ object c.
          let placed = first_stands n D at object h.agrees.table lists within c in
          record {
            here = placed.0;
            stands = placed.1;
            least = let reach : threshold V m A ≤ low V m A new.0 = h.reach new.0 new.1 in
                let zeros : low V m A new.0 ≡ V (map (λ list. 0) (list_numbers m)) = unseen_low V m A new.0 h.tame new.2 in
                let least : V (map (λ list. 0) (list_numbers m)) ≤ aggregate V D object = zeros_below V m D object monotone h.agrees.lists in
                omega arith;
          })
    ]
  where
    zeros_below : (V : List ℕ → ℕ) (m : ℕ) (D : List (List Row)) (object : ℕ) → IsMonotone V → length D ≡ m
        → V (map (λ list. 0) (list_numbers m)) ≤ aggregate V D object
    zeros_below V m D object monotone sized = rw (grades_by_number m D object sized) (zeros_least V m (λ list. grade_in (list_at D list) object) monotone)

-- the algorithm reads no deeper than the objects that the transcript sees, and k more
pub ta_stops_in_time : (V : List ℕ → ℕ) (k m n : ℕ) (D : List (List Row)) (A : List Access) (Y : List ℕ) → IsMonotone V → IsAsked k n D
    → FixesTamely V k m n D A Y → ta_depth V k D ≤ length (seen_objects A) + k
ta_stops_in_time V k m n D A Y monotone asked h =
    let least = least_depth V k n D monotone asked in
    let within : ta_depth V k D ≤ n = least.within in
    let some : 0 < m = subst (λ count. 0 < count) h.agrees.lists asked.lists in
    let one : 1 ≤ k = asked.positive in
    let fits : k ≤ n = asked.fits in
    let count : length (objects_of D) ≡ n = objects_of_count n D asked.table asked.lists in
    elim (outside_or_within (objects_of D) (seen_objects A ++ Y)) [
      | inr all ↦
          let all_fit : length (objects_of D) ≤ length (seen_objects A ++ Y) = distinct_fits (objects_of D) (seen_objects A ++ Y) (objects_of_distinct n D asked.table) all in
          let sized : length Y ≡ k = h.fixes.sized in
          omega (arith, length-append (seen_objects A) Y)
      | inl new ↦
          let at : ℕ = max (depth m A) k in
          let deep : depth m A ≤ n = depth_below m A n (λ list l. depth_fits m n D A list h.agrees l) in
          let seen : depth m A ≤ length (seen_objects A) = depth_seen m n D A h.agrees in
          let ready : AtThreshold V k m n D A Y = at_threshold V k m n D A Y new.0 some h new.1 (λ c. new.2 (Contains-append_left (seen_objects A) Y new.0 c)) (λ c. new.2 (Contains-append_right (seen_objects A) Y new.0 c)) in
          let stops : ta_stop V k D at ≡ true = stops_at_threshold V k m n D A Y at monotone some one (omega arith) (omega arith) (omega arith) ready in
          let by : ta_depth V k D ≤ at = least_by V k n D at least (omega arith) stops in
          omega arith
    ]
