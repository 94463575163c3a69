-- The runs of the two algorithms as transcripts: how deep they read.
use Rattle.std.proofs.Common.{◌≡◌, ℕ, ◌<◌, ◌≤◌, ◌+◌, ◌*◌, max, List, length, sym, ap, subst, ◌∙◌, arith}
use Rattle.std.proofs.lemmas.List.{length-take-le}
use Rattle.ranked_list.specs.declared.row.Row.{Row}
use Rattle.topk_theory.specs.declared.access.Access.{Access}
use Rattle.monotone_fn.specs.Value.{IsMonotone}
use Rattle.topk_theory.specs.Transcript.{Agrees, list_at, seen_objects, depth, cost}
use Rattle.topk_theory.specs.Threshold.{IsAsked, ta_depth, ta_run}
use Rattle.topk_theory.specs.NoRandom.{nra_depth, nra_run}
use Rattle.topk_theory.proofs.AgreementRows.{list_at_length}
use Rattle.topk_theory.proofs.NoRandomLaws.{nra_depth_is_least}
use Rattle.topk_theory.proofs.NoRandomRun.{run_rows as shallow_rows}
use Rattle.topk_theory.proofs.ThresholdLaws.{least_depth}
use Rattle.topk_theory.proofs.ThresholdRun.{run_rows}
use Rattle.algorithm_theory.specs.Optimal.{IsAlwaysRun, IsNearBest, IsNearShallowest, depth_cost}
use Rattle.algorithm_theory.proofs.Costs.{ta_cost_bounded}
use Rattle.algorithm_theory.proofs.NearBestDepths.{depth_is}
use Rattle.algorithm_theory.proofs.Shallow.{nra_stops_in_time}
use Rattle.algorithm_theory.proofs.Threshold.{ta_stops_in_time}

-- each run is as deep as its algorithm stops
ta_run_depth : (V : List ℕ → ℕ) (k n : ℕ) (D : List (List Row)) → IsMonotone V → IsAsked k n D → depth (length D) (ta_run V k D) ≡ ta_depth V k D
ta_run_depth V k n D monotone asked =
    let within : ta_depth V k D ≤ n = (least_depth V k n D monotone asked).within in
    depth_is (length D) (ta_run V k D) (ta_depth V k D) asked.lists (λ list l.
    let long : length (list_at D list) ≡ n = list_at_length n D list asked.table l in
    ap length (run_rows n D list (ta_depth V k D) asked.table l within) ∙ length-take-le (ta_depth V k D) (list_at D list) (omega arith))

nra_run_depth : (V : List ℕ → ℕ) (k n : ℕ) (D : List (List Row)) → IsMonotone V → IsAsked k n D → depth (length D) (nra_run V k D) ≡ nra_depth V k D
nra_run_depth V k n D monotone asked =
    let within : nra_depth V k D ≤ n = (nra_depth_is_least V k n D monotone asked).within in
    depth_is (length D) (nra_run V k D) (nra_depth V k D) asked.lists (λ list l.
    let long : length (list_at D list) ≡ n = list_at_length n D list asked.table l in
    ap length (shallow_rows n (nra_depth V k D) D list asked.table within l) ∙ length-take-le (nra_depth V k D) (list_at D list) (omega arith))

-- a table that agrees with such a run is one of which k objects may be asked
asked_of : (run : List (List Row) → List Access) (k m n : ℕ) (B : List Access) (D : List (List Row)) → IsAlwaysRun run k m n B
    → Agrees m n D B → IsAsked k n D
asked_of run k m n B D h agrees = record { table = agrees.table; lists = subst (λ count. 0 < count) (sym agrees.lists) h.lists; positive = h.positive; fits = h.fits }

pub ta_near_best : (V : List ℕ → ℕ) (k m n each_sorted each_random : ℕ) (B : List Access) → IsMonotone V → IsAlwaysRun (ta_run V k) k m n B
    → IsNearBest V k m n each_sorted each_random B
ta_near_best V k m n each_sorted each_random B monotone h = record {
  bounded = λ D A Y agrees fixes.
      let asked : IsAsked k n D = asked_of (ta_run V k) k m n B D h agrees in
      let run : B ≡ ta_run V k D = h.always D agrees in
      let deep : depth m B ≡ ta_depth V k D = ap (depth m) run ∙ ap (λ count. depth count (ta_run V k D)) (sym agrees.lists) ∙ ta_run_depth V k n D monotone asked in
      record {
        depth_bound = let le : ta_depth V k D ≤ length (seen_objects A) + k = ta_stops_in_time V k m n D A Y monotone asked fixes in omega arith;
        cost_bound = subst (λ C. each_sorted * cost each_sorted each_random C ≤ depth_cost m each_sorted each_random * (cost each_sorted each_random A + k * each_sorted)) (sym run)
            (ta_cost_bounded V k m n each_sorted each_random D A Y monotone asked fixes);
      };
}

pub nra_near_shallowest : (V : List ℕ → ℕ) (k m n : ℕ) (B : List Access) → IsMonotone V → IsAlwaysRun (nra_run V k) k m n B
    → IsNearShallowest V k m n B
nra_near_shallowest V k m n B monotone h = record {
  bounded = λ D A Y agrees fixes.
      let asked : IsAsked k n D = asked_of (nra_run V k) k m n B D h agrees in
      let run : B ≡ nra_run V k D = h.always D agrees in
      let deep : depth m B ≡ nra_depth V k D = ap (depth m) run ∙ ap (λ count. depth count (nra_run V k D)) (sym agrees.lists) ∙ nra_run_depth V k n D monotone asked in
      let le : nra_depth V k D ≤ max (depth m A) k = nra_stops_in_time V k m n D A Y monotone asked fixes in
      omega arith;
}
