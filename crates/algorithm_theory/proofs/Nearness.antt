-- The answer at a depth is within a factor on every table that agrees with what was read, where each object of it reaches the threshold times it.
use Rattle.std.proofs.Common.{◌≡◌, inl, inr, ℕ, ◌*◌, ◌<◌, ◌≤◌, Bool, List, length, map, count_by, nat_le, All, Contains, sym, ap, subst, ◌∙◌, arith, leb-true}
use Rattle.std.proofs.lemmas.Bool.{cases_Bool, le-leb}
use Rattle.std.proofs.Math.Nat.{mul-le-mul, mul-le-mul_left}
use Rattle.ranked_list.specs.declared.row.Row.{Row}
use Rattle.ranked_list.specs.Table.{IsTable}
use Rattle.monotone_fn.specs.Value.{least, IsLeast, IsMonotone}
use Rattle.topk_theory.specs.declared.access.Access.{Access}
use Rattle.topk_theory.specs.Aggregate.{objects_of, aggregate}
use Rattle.topk_theory.specs.Transcript.{Agrees, seen_objects, named_objects}
use Rattle.topk_theory.specs.Bounds.{low, high}
use Rattle.topk_theory.specs.Threshold.{IsAsked, stands, objects_to, threshold_at, ta_run_to, item_objects}
use Rattle.topk_theory.proofs.AgreementLists.{contains_map, all_from_members, member_of_all}
use Rattle.topk_theory.proofs.AgreementNames.{has, has_contains, has_not}
use Rattle.topk_theory.proofs.Agreement.{seen_is_named}
use Rattle.topk_theory.proofs.ThresholdLists.{contains_from_filter, length-map, map_same}
use Rattle.topk_theory.proofs.ThresholdRun.{run_agrees, run_tame}
use Rattle.topk_theory.proofs.Unseen.{unseen_high}
use Rattle.algorithm_theory.proofs.Threshold.{table_objects}
use Rattle.algorithm_theory.specs.Within.{Factor, IsWithin, FixesWithin, BoundsPartWithin}
use Rattle.algorithm_theory.specs.Nearby.{first_at, theta_depth, theta_run, theta_answer, early_depth, early_run, early_answer}
use Rattle.algorithm_theory.specs.Guarantee.{factor_over, least_low, early_guarantee}
use Rattle.algorithm_theory.proofs.Parting.{parts_fix_within}
use Rattle.algorithm_theory.proofs.WithinKnown.{IsExact, known_exact, stands_known, threshold_there}
use Rattle.algorithm_theory.proofs.WithinDepths.{IsDepth, theta_is_least, theta_is_depth, early_is_depth}
use Rattle.algorithm_theory.proofs.WithinFirsts.{are_first, first_passes, first_standing, sees_first}
use Rattle.algorithm_theory.proofs.Factors.{least_of_some, factor_fair, factor_reaches}
use Rattle.algorithm_theory.proofs.WithinReading.{seen_standing}

-- both bounds of an object that stands are its aggregate
pub standing_exact : (V : List ℕ → ℕ) (n deep object : ℕ) (D : List (List Row)) → IsTable n D → deep ≤ n → Contains (objects_to D deep) object
    → IsExact V (length D) D (ta_run_to D deep) object
standing_exact V n deep object D t within c =
    let kept = contains_from_filter (stands D deep) (objects_of D) object c in
    known_exact V (length D) n D (ta_run_to D deep) object (run_agrees n D deep t within) (λ list l. stands_known n deep object list D t kept.0 kept.1 l)

-- what is asked of the answer at a depth and a factor of at least 1: each of its objects, times the factor, reaches the threshold there
pub record Reaches (V : List ℕ → ℕ) (k n : ℕ) (factor : Factor) (D : List (List Row)) (deep : ℕ) : Type 0 where
  pub fair : factor.q ≤ factor.p
  pub depth : IsDepth k n D deep
  pub reach : (object : ℕ) → Contains (item_objects (first_at V k D deep)) object → factor.q * threshold_at V D deep ≤ factor.p * aggregate V D object

-- then the bounds part, over each set of objects that has the named ones
reach_parts : (V : List ℕ → ℕ) (k n : ℕ) (factor : Factor) (D : List (List Row)) (deep : ℕ) (O : List ℕ) → IsAsked k n D → Reaches V k n factor D deep
    → All (Contains O) (named_objects (ta_run_to D deep))
    → BoundsPartWithin V k factor (length D) O (ta_run_to D deep) (item_objects (first_at V k D deep))
reach_parts V k n factor D deep O asked h holds =
    let m : ℕ = length D in
    let A : List Access = ta_run_to D deep in
    let Y : List ℕ = item_objects (first_at V k D deep) in
    let t = asked.table in
    let within = h.depth.within in
    let first = are_first V k n D deep t h.depth in
    let exact : (object : ℕ) → Contains (objects_to D deep) object → IsExact V m D A object = λ object c. standing_exact V n deep object D t within c in
    record {
      sized = first.sized;
      distinct = first.distinct;
      members = all_from_members (Contains O) Y (λ o c. member_of_all (Contains O) (named_objects A) o holds
          (seen_is_named A o (member_of_all (Contains (seen_objects A)) Y o (sees_first V k n D deep t) c)));
      part = λ inside outside c o out.
          let low_is : factor.p * low V m A inside ≡ factor.p * aggregate V D inside = ap (λ v. factor.p * v) (exact inside (first.standing inside c)).lowest in
          elim (cases_Bool (has outside (seen_objects A))) [
            | inl seen ↦
                let there : Contains (objects_to D deep) outside = seen_standing n deep D outside t within (has_contains outside (seen_objects A) seen) in
                let high_is : factor.q * high V m A outside ≡ factor.q * aggregate V D outside = ap (λ v. factor.q * v) (exact outside there).highest in
                let le : factor.q * aggregate V D outside ≤ factor.p * aggregate V D inside = mul-le-mul h.fair (first.unbeaten inside outside c there out) in
                omega arith
            | inr unseen ↦
                let high_is : factor.q * high V m A outside ≡ factor.q * threshold_at V D deep =
                ap (λ v. factor.q * v) (unseen_high V m A outside (run_tame n D deep t within) (has_not outside (seen_objects A) unseen) ∙ threshold_there V n deep D t h.depth.from_one within) in
                let le : factor.q * threshold_at V D deep ≤ factor.p * aggregate V D inside = h.reach inside c in
                omega arith
          ];
    }

reach_fixes : (V : List ℕ → ℕ) (k n : ℕ) (factor : Factor) (D : List (List Row)) (deep : ℕ) → IsMonotone V → IsAsked k n D → Reaches V k n factor D deep
    → FixesWithin V k factor (length D) n (ta_run_to D deep) (item_objects (first_at V k D deep))
reach_fixes V k n factor D deep monotone asked h O set holds =
    parts_fix_within V k factor (length D) n O (ta_run_to D deep) (item_objects (first_at V k D deep)) monotone (reach_parts V k n factor D deep O asked h holds)

-- what is fixed so is so on each table that agrees
pub fixed_within : (V : List ℕ → ℕ) (k : ℕ) (factor : Factor) (m n : ℕ) (A : List Access) (Y : List ℕ) (E : List (List Row)) → 0 < m
    → FixesWithin V k factor m n A Y → Agrees m n E A → IsWithin V k factor E Y
fixed_within V k factor m n A Y E some fixes agrees =
    let may = table_objects m n E A some agrees in
    (fixes (objects_of E) may.is_set may.named).always E agrees (λ o. ((λ c. c), (λ c. c)))

-- ---- within a factor
theta_reaches : (V : List ℕ → ℕ) (k n : ℕ) (factor : Factor) (D : List (List Row)) → IsMonotone V → IsAsked k n D → factor.q ≤ factor.p
    → Reaches V k n factor D (theta_depth V k factor D)
theta_reaches V k n factor D monotone asked fair =
    let deep : ℕ = theta_depth V k factor D in
    let bound : ℕ = threshold_at V D deep in
    let passes : ℕ → Bool = λ v. nat_le (factor.q * bound) (factor.p * v) in
    let is_depth = theta_is_depth V k n factor D monotone asked fair in
    let enough : k ≤ count_by (λ object. passes (aggregate V D object)) (objects_to D deep) =
    leb-true k (count_by (λ object. passes (aggregate V D object)) (objects_to D deep)) (theta_is_least V k n factor D monotone asked fair).stops_there in
    record {
      fair = fair;
      depth = is_depth;
      reach = λ object c. leb-true (factor.q * bound) (factor.p * aggregate V D object)
          (first_passes V k n D deep passes object asked.table is_depth (λ one other le t.
          let more : factor.p * one ≤ factor.p * other = mul-le-mul_left factor.p le in
          let reached : factor.q * bound ≤ factor.p * one = leb-true (factor.q * bound) (factor.p * one) t in
          le-leb (factor.q * bound) (factor.p * other) (omega arith)) enough c);
    }

pub theta_fixes : (V : List ℕ → ℕ) (k n : ℕ) (factor : Factor) (D : List (List Row)) → IsMonotone V → IsAsked k n D → factor.q ≤ factor.p
    → FixesWithin V k factor (length D) n (theta_run V k factor D) (item_objects (theta_answer V k factor D))
theta_fixes V k n factor D monotone asked fair = reach_fixes V k n factor D (theta_depth V k factor D) monotone asked (theta_reaches V k n factor D monotone asked fair)

pub theta_within : (V : List ℕ → ℕ) (k n : ℕ) (factor : Factor) (D : List (List Row)) → IsMonotone V → IsAsked k n D → factor.q ≤ factor.p
    → IsWithin V k factor D (item_objects (theta_answer V k factor D))
theta_within V k n factor D monotone asked fair =
    fixed_within V k factor (length D) n (theta_run V k factor D) (item_objects (theta_answer V k factor D)) D asked.lists (theta_fixes V k n factor D monotone asked fair)
    (run_agrees n D (theta_depth V k factor D) asked.table (theta_is_depth V k n factor D monotone asked fair).within)

-- ---- early
-- the guarantee is that of the aggregates and the threshold at the depth
pub guarantee_there : (V : List ℕ → ℕ) (k n deep : ℕ) (D : List (List Row)) → IsAsked k n D → IsDepth k n D deep
    → early_guarantee V (length D) (ta_run_to D deep) (item_objects (first_at V k D deep))
    ≡ factor_over (threshold_at V D deep) (least (map (aggregate V D) (item_objects (first_at V k D deep))))
guarantee_there V k n deep D asked h =
    let m : ℕ = length D in
    let A : List Access = ta_run_to D deep in
    let Y : List ℕ = item_objects (first_at V k D deep) in
    let lows : map (low V m A) Y ≡ map (aggregate V D) Y = map_same (low V m A) (aggregate V D) Y (λ o c.
    (standing_exact V n deep o D asked.table h.within (first_standing V k n D deep o asked.table c)).lowest) in
    ap (λ bound. factor_over bound (least_low V m A Y)) (threshold_there V n deep D asked.table h.from_one h.within)
    ∙ ap (λ vs. factor_over (threshold_at V D deep) (least vs)) lows

guarantee_reaches : (V : List ℕ → ℕ) (k n deep : ℕ) (D : List (List Row)) → IsAsked k n D → IsDepth k n D deep
    → Reaches V k n (early_guarantee V (length D) (ta_run_to D deep) (item_objects (first_at V k D deep))) D deep
guarantee_reaches V k n deep D asked h =
    let Y : List ℕ = item_objects (first_at V k D deep) in
    let bound : ℕ = threshold_at V D deep in
    let fewest : ℕ = least (map (aggregate V D) Y) in
    let positive = asked.positive in
    let size : length Y ≡ k = (are_first V k n D deep asked.table h).sized in
    let long : length (map (aggregate V D) Y) ≡ length Y = length-map (aggregate V D) Y in
    let is : IsLeast (map (aggregate V D) Y) fewest = least_of_some (map (aggregate V D) Y) (omega arith) in
    subst (λ factor. Reaches V k n factor D deep) (sym (guarantee_there V k n deep D asked h)) (record {
      fair = factor_fair bound fewest;
      depth = h;
      reach = λ object c. factor_reaches bound fewest (aggregate V D object) (member_of_all (λ n. fewest ≤ n) (map (aggregate V D) Y) (aggregate V D object) is.bounds (contains_map (aggregate V D) Y object c));
    })

pub early_fixes : (V : List ℕ → ℕ) (k n from : ℕ) (D : List (List Row)) → IsMonotone V → IsAsked k n D
    → FixesWithin V k (early_guarantee V (length D) (early_run V k from D) (item_objects (early_answer V k from D))) (length D) n (early_run V k from D) (item_objects (early_answer V k from D))
early_fixes V k n from D monotone asked =
    let deep : ℕ = early_depth V k from D in
    reach_fixes V k n (early_guarantee V (length D) (ta_run_to D deep) (item_objects (first_at V k D deep))) D deep monotone asked
    (guarantee_reaches V k n deep D asked (early_is_depth V k n from D monotone asked))

pub early_within : (V : List ℕ → ℕ) (k n from : ℕ) (D : List (List Row)) → IsMonotone V → IsAsked k n D
    → IsWithin V k (early_guarantee V (length D) (early_run V k from D) (item_objects (early_answer V k from D))) D (item_objects (early_answer V k from D))
early_within V k n from D monotone asked =
    fixed_within V k (early_guarantee V (length D) (early_run V k from D) (item_objects (early_answer V k from D))) (length D) n (early_run V k from D) (item_objects (early_answer V k from D)) D
    asked.lists (early_fixes V k n from D monotone asked) (run_agrees n D (early_depth V k from D) asked.table (early_is_depth V k n from D monotone asked).within)

pub early_guarantee_there : (V : List ℕ → ℕ) (k n from : ℕ) (D : List (List Row)) → IsMonotone V → IsAsked k n D
    → early_guarantee V (length D) (early_run V k from D) (item_objects (early_answer V k from D))
    ≡ factor_over (threshold_at V D (early_depth V k from D)) (least (map (aggregate V D) (item_objects (early_answer V k from D))))
early_guarantee_there V k n from D monotone asked = guarantee_there V k n (early_depth V k from D) D asked (early_is_depth V k n from D monotone asked)

-- ---- both have seen what they answer
pub theta_sees : (V : List ℕ → ℕ) (k n : ℕ) (factor : Factor) (D : List (List Row)) → IsMonotone V → IsAsked k n D → factor.q ≤ factor.p
    → All (Contains (seen_objects (theta_run V k factor D))) (item_objects (theta_answer V k factor D))
theta_sees V k n factor D monotone asked fair = sees_first V k n D (theta_depth V k factor D) asked.table

pub early_sees : (V : List ℕ → ℕ) (k n from : ℕ) (D : List (List Row)) → IsMonotone V → IsAsked k n D
    → All (Contains (seen_objects (early_run V k from D))) (item_objects (early_answer V k from D))
early_sees V k n from D monotone asked = sees_first V k n D (early_depth V k from D) asked.table
