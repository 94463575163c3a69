-- A table for each k on which both algorithms read as deep as the bounds allow.
use Rattle.std.proofs.Common.{◌≡◌, ◌≢◌, ℕ, ◌+◌, ◌*◌, ◌==◌, ◌||◌, not, ◌++◌, ◌≤◌, inl, inr, true, max, List, [], ◌∷◌, length, map, All, AllPairs, Contains, slice_index_or, refl, sym, ap, subst, ◌∙◌, arith, count_by, nat_le, leb, length-append}
use Rattle.std.specs.List.{range_with_len, list_all, list_any}
use Rattle.std.proofs.lemmas.Bool.{and_parts, leb-true}
use Rattle.std.proofs.lemmas.List.FromFn.{length-range_with_len}
use Rattle.std.proofs.lemmas.List.Kept.{AllPairs-filter}
use Rattle.std.proofs.lemmas.List.Sums.{count_by-le-length}
use Rattle.ranked_list.specs.declared.row.Row.{Row}
use Rattle.ranked_list.specs.Table.{IsRanked, IsTable, objects, top_grade}
use Rattle.topk_theory.specs.declared.access.Access.{Access}
use Rattle.topk_theory.specs.declared.access.Access.TheVariants.{Random}
use Rattle.monotone_fn.specs.Value.{IsMonotone}
use Rattle.topk_theory.specs.Aggregate.{objects_of, aggregate}
use Rattle.topk_theory.specs.Transcript.{seen_objects, sorted_count}
use Rattle.topk_theory.specs.Fixes.{FixesOver}
use Rattle.topk_theory.specs.Threshold.{IsAsked, stands, objects_to, threshold_at, ta_stop, ta_depth, ta_run_to}
use Rattle.topk_theory.specs.NoRandom.{nra_depth, nra_run_to, first_seen, is_viable, is_quiet}
use Rattle.topk_theory.proofs.AgreementLists.{contains_nil, contains_at, contains_cases, contains_map_from, all_from_members, distinct_fits}
use Rattle.topk_theory.proofs.Agreement.{agrees_none, objects_of_distinct, objects_of_count}
use Rattle.topk_theory.proofs.Consistent.{range_distinct}
use Rattle.topk_theory.proofs.ConsistentRows.{graded_distinct}
use Rattle.topk_theory.proofs.NoRandomLaws.{nra_depth_is_least}
use Rattle.topk_theory.proofs.ThresholdLaws.{least_depth}
use Rattle.topk_theory.proofs.ThresholdLists.{length-map, contains_from_filter}
use Rattle.topk_theory.proofs.ThresholdRun.{run_sees}
use Rattle.algorithm_theory.specs.Optimal.{FixesTamely, FixesBySorted, flat_table, MeetsBounds}
use Rattle.algorithm_theory.proofs.Costs.{run_sorted, shallow_sorted}
use Rattle.algorithm_theory.proofs.NearBestDepths.{seen_sorted}
use Rattle.algorithm_theory.proofs.Shallow.{nra_stops_in_time}
use Rattle.algorithm_theory.proofs.Threshold.{ta_stops_in_time}

abbrev flat_rows : ℕ → List Row
flat_rows k = map (λ object. record { object = object; grade = 0 }) (range_with_len 0 k)

flat_grade : (k : ℕ) (row : Row) → Contains (flat_rows k) row → row.grade ≡ 0
flat_grade k row c = let from = contains_map_from (λ object. record { object = object; grade = 0 }) (range_with_len 0 k) row c in sym (ap (λ (z : Row). z.grade) from.2)

flat_length : (k : ℕ) → length (flat_rows k) ≡ k
flat_length k = length-map (λ object. record { object = object; grade = 0 }) (range_with_len 0 k) ∙ length-range_with_len 0 k

flat_ranked : (k : ℕ) → IsRanked (flat_rows k)
flat_ranked k = record {
  distinct = graded_distinct (λ object. 0) (range_with_len 0 k) (range_distinct k);
  falling = λ i j d lt in_range.
      let low : (slice_index_or (flat_rows k) j d).grade ≡ 0 = flat_grade k (slice_index_or (flat_rows k) j d) (contains_at (flat_rows k) j d in_range) in
      omega arith;
  capped = all_from_members (λ (row : Row). row.grade ≤ top_grade) (flat_rows k) (λ row c. let low : row.grade ≡ 0 = flat_grade k row c in omega arith);
}

all_one : {X : Type 0} (P : X → Type 0) (x : X) → P x → All P (x ∷ [])
all_one P x h = all_from_members P (x ∷ []) (λ y c. elim (contains_cases x [] y c) [ inl e ↦ subst P e h | inr t ↦ absurd (contains_nil y t) ])

flat_is_table : (k : ℕ) → IsTable k (flat_table k)
flat_is_table k = record {
  sized = all_one (λ (rows : List Row). length rows ≡ k) (flat_rows k) (flat_length k);
  ranked = all_one IsRanked (flat_rows k) (flat_ranked k);
  same = all_one (λ rows. All (λ others. (object : ℕ) → Contains (objects rows) object → Contains (objects others) object) (flat_table k)) (flat_rows k)
      (all_one (λ others. (object : ℕ) → Contains (objects (flat_rows k)) object → Contains (objects others) object) (flat_rows k) (λ object c. c));
}

-- where all objects are asked for no access is needed
all_fixed : (V : List ℕ → ℕ) (k m : ℕ) (O : List ℕ) → length O ≡ k → AllPairs (λ (x : ℕ) (y : ℕ). x ≢ y) O → FixesOver V k m k O [] O
all_fixed V k m O sized apart = record {
  sized = sized;
  distinct = apart;
  members = all_from_members (Contains O) O (λ o c. c);
  always = λ D agrees over. record {
    sized = sized;
    distinct = apart;
    members = all_from_members (Contains (objects_of D)) O (λ o c. (over o).1 c);
    unbeaten = λ inside outside c here out. absurd (out ((over outside).0 here));
  };
}

-- in one list no more objects stand down to a depth than it counts
ta_at_least : (V : List ℕ → ℕ) (k n at : ℕ) (D : List (List Row)) → IsTable n D → length D ≡ 1 → ta_stop V k D at ≡ true → k ≤ at
ta_at_least V k n at D table one stops =
    let passes = λ (object : ℕ). nat_le (threshold_at V D at) (aggregate V D object) in
    let enough : k ≤ count_by passes (objects_to D at) = leb-true k (count_by passes (objects_to D at)) stops in
    let some : count_by passes (objects_to D at) ≤ length (objects_to D at) = count_by-le-length passes (objects_to D at) in
    let fits : length (objects_to D at) ≤ length (seen_objects (ta_run_to D at)) = distinct_fits (objects_to D at) (seen_objects (ta_run_to D at))
    (AllPairs-filter (λ (x : ℕ) (y : ℕ). x ≢ y) (stands D at) (objects_of D) (objects_of_distinct n D table))
    (λ o c. let kept = contains_from_filter (stands D at) (objects_of D) o c in run_sees n D at o table kept.1 kept.0) in
    let seen : length (seen_objects (ta_run_to D at)) ≤ sorted_count (ta_run_to D at) = seen_sorted (ta_run_to D at) in
    let count : sorted_count (ta_run_to D at) ≡ at * 1 = subst (λ m. sorted_count (ta_run_to D at) ≡ at * m) one (run_sorted D at) in
    omega arith

nra_at_least : (V : List ℕ → ℕ) (k at : ℕ) (D : List (List Row)) → length D ≡ 1 → is_quiet V k (length D) D (nra_run_to D at) ≡ true → k ≤ at
nra_at_least V k at D one quiet =
    let A = nra_run_to D at in
    let enough : k ≤ length (seen_objects A) = leb-true k (length (seen_objects A)) (and_parts (leb k (length (seen_objects A))) (list_all (λ o. list_any (λ item. item.object == o) (first_seen V k (length D) A) || not (is_viable V k (length D) A o)) (objects_of D)) quiet).0 in
    let seen : length (seen_objects A) ≤ sorted_count A = seen_sorted A in
    let count : sorted_count A ≡ at * 1 = subst (λ m. sorted_count A ≡ at * m) one (shallow_sorted D at) in
    omega arith

pub bounds_are_met : (V : List ℕ → ℕ) (k : ℕ) → IsMonotone V → 1 ≤ k → MeetsBounds V k (flat_table k) (objects_of (flat_table k))
bounds_are_met V k monotone one =
    let D : List (List Row) = flat_table k in
    let Y : List ℕ = objects_of D in
    let table : IsTable k D = flat_is_table k in
    let asked : IsAsked k k D = record { table = table; lists = omega arith; positive = one; fits = omega arith } in
    let fixes : FixesOver V k (length D) k Y [] Y = all_fixed V k (length D) Y (objects_of_count k D table (omega arith)) (objects_of_distinct k D table) in
    let tamely : FixesTamely V k (length D) k D [] Y = record { agrees = agrees_none k D table; tame = λ earlier later list object grade e. absurd (nothing_after earlier later list object grade e); fixes = fixes } in
    let by_sorted : FixesBySorted V k (length D) k D [] Y = record { agrees = agrees_none k D table; no_random = refl; fixes = fixes } in
    let ta_up : ta_depth V k D ≤ 0 + k = ta_stops_in_time V k (length D) k D [] Y monotone asked tamely in
    let ta_down : k ≤ ta_depth V k D = ta_at_least V k k (ta_depth V k D) D table refl (least_depth V k k D monotone asked).stops in
    let nra_up : nra_depth V k D ≤ max 0 k = nra_stops_in_time V k (length D) k D [] Y monotone asked by_sorted in
    let nra_down : k ≤ nra_depth V k D = nra_at_least V k (nra_depth V k D) D refl (nra_depth_is_least V k k D monotone asked).quiet in
    record {
      asked = asked;
      tamely = tamely;
      by_sorted = by_sorted;
      ta_reads = omega arith;
      nra_reads = omega arith;
    }
  where
    nothing_after : (earlier later : List Access) (list object grade : ℕ) → [] ≡ earlier ++ Random list object grade ∷ later → ⊥
    nothing_after earlier later list object grade e = let size : length {A = Access} [] ≡ length (earlier ++ Random list object grade ∷ later) = ap length e in omega (arith, length-append earlier (Random list object grade ∷ later))
