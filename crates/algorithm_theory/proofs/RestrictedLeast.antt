-- The algorithm stops, at the last depth at the latest, and where it stops first.
use Rattle.std.proofs.Common.{◌≡◌, ◌⊎◌, inl, inr, ℕ, ◌+◌, ◌-◌, Bool, true, ◌||◌, List, length, sym, ap, ◌∙◌, arith, eq-eqb}
use Rattle.std.proofs.lemmas.Bool.{cases_Bool}
use Rattle.ranked_list.specs.declared.row.Row.{Row}
use Rattle.topk_theory.specs.Aggregate.{objects_of}
use Rattle.topk_theory.specs.Transcript.{list_at}
use Rattle.topk_theory.specs.Threshold.{IsAsked, stands}
use Rattle.topk_theory.proofs.AgreementRows.{list_at_contains}
use Rattle.topk_theory.proofs.Agreement.{objects_of_count}
use Rattle.topk_theory.proofs.ThresholdDepth.{least_from-start, least_from-end, least_from-passes, least_from-before, place_within}
use Rattle.topk_theory.proofs.ThresholdLists.{filter_all}
use Rattle.algorithm_theory.specs.Restricted.{HasOne, part_in, taz_objects, has_enough, has_all, taz_stop, taz_depth, IsLeastRestricted}
use Rattle.algorithm_theory.proofs.RestrictedLists.{stands_by}

-- down to the last depth all objects stand in each list, and some list is in Z
all_stand : (k n : ℕ) (Z : ℕ → Bool) (D : List (List Row)) → IsAsked k n D → HasOne Z (length D) → taz_objects Z D n ≡ objects_of D
all_stand k n Z D asked one =
    filter_all (stands (part_in Z D) n) (objects_of D) (λ object here.
    stands_by Z D n object one.list one.listed one.sorted (place_within n D (list_at D one.list) object asked.table (list_at_contains D one.list one.listed) here))

stops_at_last : (V : List ℕ → ℕ) (k n : ℕ) (Z : ℕ → Bool) (D : List (List Row)) → IsAsked k n D → HasOne Z (length D) → taz_stop V k Z D n ≡ true
stops_at_last V k n Z D asked one =
    ap (λ b. b || has_enough V k Z D n) (eq-eqb (length (taz_objects Z D n)) (length (objects_of D)) (ap length (all_stand k n Z D asked one)))

pub taz_depth_is_least : (V : List ℕ → ℕ) (k n : ℕ) (Z : ℕ → Bool) (D : List (List Row)) → IsAsked k n D → HasOne Z (length D)
    → IsLeastRestricted V k n Z D (taz_depth V k Z D)
taz_depth_is_least V k n Z D asked one =
    let count : length (objects_of D) ≡ n = objects_of_count n D asked.table asked.lists in
    let more : ℕ = length (objects_of D) - 1 in
    let positive = asked.positive in
    let fits = asked.fits in
    let last : 1 + more ≡ n = omega arith in
    record {
      from_one = least_from-start (taz_stop V k Z D) more 1;
      within = omega (arith, least_from-end (taz_stop V k Z D) more 1);
      stops = least_from-passes (taz_stop V k Z D) more 1 (ap (taz_stop V k Z D) last ∙ stops_at_last V k n Z D asked one);
      least = λ other from below. least_from-before (taz_stop V k Z D) more 1 other from below;
    }

-- it stops for one of two causes
pub why_stops : (V : List ℕ → ℕ) (k : ℕ) (Z : ℕ → Bool) (D : List (List Row)) (depth : ℕ) → taz_stop V k Z D depth ≡ true
    → (has_all Z D depth ≡ true) ⊎ (has_enough V k Z D depth ≡ true)
why_stops V k Z D depth stops =
    elim (cases_Bool (has_all Z D depth)) [
      | inl all ↦ inl all
      | inr some ↦ inr (sym (ap (λ b. b || has_enough V k Z D depth) some) ∙ stops)
    ]
