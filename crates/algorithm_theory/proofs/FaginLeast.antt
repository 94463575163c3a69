-- The algorithm stops, where it stops first, and that it stops no higher than the threshold algorithm.
use Rattle.std.proofs.Common.{◌≡◌, ◌≢◌, inl, inr, ℕ, ◌+◌, ◌-◌, ◌<◌, ◌≤◌, Bool, true, List, length, filter, Contains, count_by, nat_lt, nat_le, sym, ap, ◌∙◌, arith}
use Rattle.std.proofs.lemmas.Bool.{cases_lt, true≢false, lt-ltb, ltb-true, le-leb, leb-true}
use Rattle.std.proofs.lemmas.List.Sums.{length-filter, list_all-from_AllPass}
use Rattle.std.proofs.lemmas.List.Kept.{AllPairs-filter}
use Rattle.ranked_list.specs.declared.row.Row.{Row}
use Rattle.ranked_list.specs.Table.{IsTable, place_in}
use Rattle.monotone_fn.specs.Value.{IsMonotone}
use Rattle.topk_theory.specs.Aggregate.{objects_of, aggregate}
use Rattle.topk_theory.specs.Threshold.{IsAsked, stands, objects_to, threshold_at, ta_stop, ta_depth}
use Rattle.topk_theory.proofs.AgreementLists.{all_from_members, distinct_fits}
use Rattle.topk_theory.proofs.Agreement.{objects_of_distinct, objects_of_count}
use Rattle.topk_theory.proofs.NoRandomTop.{all_passes}
use Rattle.topk_theory.proofs.ThresholdLists.{contains_filter, contains_from_filter, count_all}
use Rattle.topk_theory.proofs.ThresholdDepth.{least_from-start, least_from-end, least_from-passes, least_from-before, place_within, seen_at_least}
use Rattle.topk_theory.proofs.ThresholdLaws.{least_depth}
use Rattle.algorithm_theory.specs.Fagin.{stands_in_all, fa_stop, fa_depth, IsLeastCommon}
use Rattle.algorithm_theory.proofs.FaginCommon.{common_stands}

-- down to the last depth all objects stand in every list
stops_at_last : (k n : ℕ) (D : List (List Row)) → IsAsked k n D → fa_stop k D n ≡ true
stops_at_last k n D asked =
    let all : count_by (stands_in_all D n) (objects_of D) ≡ length (objects_of D) = count_all (stands_in_all D n) (objects_of D) (λ object here.
    list_all-from_AllPass (λ rows. nat_lt (place_in rows object) n) D (all_from_members (λ rows. nat_lt (place_in rows object) n ≡ true) D (λ rows c.
    lt-ltb (place_in rows object) n (place_within n D rows object asked.table c here)))) in
    let count : length (objects_of D) ≡ n = objects_of_count n D asked.table asked.lists in
    let fits = asked.fits in
    le-leb k (count_by (stands_in_all D n) (objects_of D)) (omega arith)

pub fa_depth_is_least : (k n : ℕ) (D : List (List Row)) → IsAsked k n D → IsLeastCommon k n D (fa_depth k D)
fa_depth_is_least k n D asked =
    let count : length (objects_of D) ≡ n = objects_of_count n D asked.table asked.lists in
    let more : ℕ = length (objects_of D) - 1 in
    let positive = asked.positive in
    let fits = asked.fits in
    let last : 1 + more ≡ n = omega arith in
    record {
      from_one = least_from-start (fa_stop k D) more 1;
      within = omega (arith, least_from-end (fa_stop k D) more 1);
      stops = least_from-passes (fa_stop k D) more 1 (ap (fa_stop k D) last ∙ stops_at_last k n D asked);
      least = λ other from below. least_from-before (fa_stop k D) more 1 other from below;
    }

-- an object that stands in every list down to a depth has at least the threshold there
pub common_reaches : (V : List ℕ → ℕ) (n depth : ℕ) (D : List (List Row)) (object : ℕ) → IsMonotone V → IsTable n D → depth ≤ n → Contains (objects_of D) object
    → stands_in_all D depth object ≡ true → threshold_at V D depth ≤ aggregate V D object
common_reaches V n depth D object monotone t within here all =
    seen_at_least V n D object depth monotone t here within (λ rows c. ltb-true (place_in rows object) depth (all_passes (λ r. nat_lt (place_in r object) depth) D rows all c))

-- where k objects stand in every list, the threshold algorithm stops too
pub stop_stops : (V : List ℕ → ℕ) (k n depth : ℕ) (D : List (List Row)) → IsMonotone V → IsTable n D → 0 < length D → depth ≤ n → fa_stop k D depth ≡ true
    → ta_stop V k D depth ≡ true
stop_stops V k n depth D monotone t some within stops =
    let good : ℕ → Bool = λ object. nat_le (threshold_at V D depth) (aggregate V D object) in
    let fits : length (filter (stands_in_all D depth) (objects_of D)) ≤ length (filter good (objects_to D depth)) =
    distinct_fits (filter (stands_in_all D depth) (objects_of D)) (filter good (objects_to D depth))
    (AllPairs-filter (λ (one other : ℕ). one ≢ other) (stands_in_all D depth) (objects_of D) (objects_of_distinct n D t)) (λ o c.
    let kept = contains_from_filter (stands_in_all D depth) (objects_of D) o c in
    contains_filter good (objects_to D depth) o (contains_filter (stands D depth) (objects_of D) o kept.0 (common_stands depth D o some kept.1))
    (le-leb (threshold_at V D depth) (aggregate V D o) (common_reaches V n depth D o monotone t within kept.0 kept.1))) in
    let all : length (filter (stands_in_all D depth) (objects_of D)) ≡ count_by (stands_in_all D depth) (objects_of D) = length-filter (stands_in_all D depth) (objects_of D) in
    let reached : length (filter good (objects_to D depth)) ≡ count_by good (objects_to D depth) = length-filter good (objects_to D depth) in
    let enough : k ≤ count_by (stands_in_all D depth) (objects_of D) = leb-true k (count_by (stands_in_all D depth) (objects_of D)) stops in
    le-leb k (count_by good (objects_to D depth)) (omega arith)

pub ta_is_no_deeper : (V : List ℕ → ℕ) (k n : ℕ) (D : List (List Row)) → IsMonotone V → IsAsked k n D → ta_depth V k D ≤ fa_depth k D
ta_is_no_deeper V k n D monotone asked =
    let own = fa_depth_is_least k n D asked in
    elim (cases_lt (fa_depth k D) (ta_depth V k D)) [
      | inr le ↦ le
      | inl less ↦ absurd (true≢false (sym (stop_stops V k n (fa_depth k D) D monotone asked.table asked.lists own.within own.stops) ∙ (least_depth V k n D monotone asked).least (fa_depth k D) own.from_one less))
    ]
