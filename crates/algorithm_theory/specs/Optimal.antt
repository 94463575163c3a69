-- How deep the two algorithms read, against whatever else could have fixed an answer on the same table.
-- V gives the value of a query's expression at a list of grades.
use Rattle.std.specs.Prelude.{◌≡◌, ◌<◌, ◌≤◌, ◌+◌, ◌-◌, ◌*◌, ℕ, max, List, [], ◌∷◌, length, map}
use Rattle.std.specs.List.{range_with_len}
use Rattle.ranked_list.specs.declared.row.Row.{Row}
use Rattle.topk_theory.specs.declared.access.Access.{Access}
use Rattle.monotone_fn.specs.Value.{IsMonotone}
use Rattle.topk_theory.specs.Aggregate.{objects_of}
use Rattle.topk_theory.specs.Transcript.{Agrees, IsTame, seen_objects, depth, random_count, cost}
use Rattle.topk_theory.specs.Fixes.{FixesOver}
use Rattle.topk_theory.specs.Threshold.{IsAsked, ta_depth, ta_run}
use Rattle.topk_theory.specs.NoRandom.{nra_depth, nra_run}

-- A could have been read of D in place of an algorithm's run: D agrees with it, it makes no wild guess, and it fixes Y over D's objects
pub record FixesTamely (V : List ℕ → ℕ) (k m n : ℕ) (D : List (List Row)) (A : List Access) (Y : List ℕ) : Type 0 where
  pub agrees : Agrees m n D A
  pub tame : IsTame A
  pub fixes : FixesOver V k m n (objects_of D) A Y

-- the same of a transcript without random access
pub record FixesBySorted (V : List ℕ → ℕ) (k m n : ℕ) (D : List (List Row)) (A : List Access) (Y : List ℕ) : Type 0 where
  pub agrees : Agrees m n D A
  pub no_random : random_count A ≡ 0
  pub fixes : FixesOver V k m n (objects_of D) A Y

-- the most that one depth of the threshold algorithm costs over m lists: a row, and for each of its objects a grade of each other list
abbrev pub depth_cost : ℕ → ℕ → ℕ → ℕ
depth_cost m each_sorted each_random = m * each_sorted + m * (m - 1) * each_random

-- the threshold algorithm reads no deeper than the objects that a tame transcript sees until it fixes an answer, and k more
abbrev pub TaStopsInTime : Type 0
TaStopsInTime =
    (V : List ℕ → ℕ) (k m n : ℕ) (D : List (List Row)) (A : List Access) (Y : List ℕ)
    → IsMonotone V → IsAsked k n D → FixesTamely V k m n D A Y
    → ta_depth V k D ≤ length (seen_objects A) + k

-- and the cost of its run is within a factor of the cost of the tame transcript and k sorted accesses: the lists and the costs determine it
abbrev pub TaCostIsBounded : Type 0
TaCostIsBounded =
    (V : List ℕ → ℕ) (k m n each_sorted each_random : ℕ) (D : List (List Row)) (A : List Access) (Y : List ℕ)
    → IsMonotone V → IsAsked k n D → FixesTamely V k m n D A Y
    → each_sorted * cost each_sorted each_random (ta_run V k D)
    ≤ depth_cost m each_sorted each_random * (cost each_sorted each_random A + k * each_sorted)

-- the algorithm without random access reads no deeper than k, or than a transcript without random access that fixes an answer
abbrev pub NraStopsInTime : Type 0
NraStopsInTime =
    (V : List ℕ → ℕ) (k m n : ℕ) (D : List (List Row)) (A : List Access) (Y : List ℕ)
    → IsMonotone V → IsAsked k n D → FixesBySorted V k m n D A Y
    → nra_depth V k D ≤ max (depth m A) k

-- on every table that agrees with B, over m lists of n objects, B is the run of an algorithm that is asked for k of them
pub record IsAlwaysRun (run : List (List Row) → List Access) (k m n : ℕ) (B : List Access) : Type 0 where
  pub lists : 0 < m
  pub positive : 1 ≤ k
  pub fits : k ≤ n
  pub always : (D : List (List Row)) → Agrees m n D B → B ≡ run D

-- B is no deeper than the objects that A sees, and k more; the cost of B is within the factor of that of A and k sorted accesses
pub record IsBoundedBy (k m each_sorted each_random : ℕ) (A B : List Access) : Type 0 where
  pub depth_bound : depth m B ≤ length (seen_objects A) + k
  pub cost_bound : each_sorted * cost each_sorted each_random B
      ≤ depth_cost m each_sorted each_random * (cost each_sorted each_random A + k * each_sorted)

-- of a transcript of the threshold algorithm: on each table that agrees with it, each tame transcript that fixes an answer there bounds it
pub record IsNearBest (V : List ℕ → ℕ) (k m n each_sorted each_random : ℕ) (B : List Access) : Type 0 where
  pub bounded : (D : List (List Row)) (A : List Access) (Y : List ℕ) → Agrees m n D B → FixesTamely V k m n D A Y → IsBoundedBy k m each_sorted each_random A B

-- of a transcript without random access: on each table that agrees, it is no deeper than k or than each such transcript that fixes an answer
pub record IsNearShallowest (V : List ℕ → ℕ) (k m n : ℕ) (B : List Access) : Type 0 where
  pub bounded : (D : List (List Row)) (A : List Access) (Y : List ℕ) → Agrees m n D B → FixesBySorted V k m n D A Y → depth m B ≤ max (depth m A) k

-- these hold where the transcript is the algorithm's run on every table that agrees with it
abbrev pub TaIsNearBest : Type 0
TaIsNearBest =
    (V : List ℕ → ℕ) (k m n each_sorted each_random : ℕ) (B : List Access)
    → IsMonotone V → IsAlwaysRun (ta_run V k) k m n B → IsNearBest V k m n each_sorted each_random B

abbrev pub NraIsNearShallowest : Type 0
NraIsNearShallowest =
    (V : List ℕ → ℕ) (k m n : ℕ) (B : List Access)
    → IsMonotone V → IsAlwaysRun (nra_run V k) k m n B → IsNearShallowest V k m n B

-- one list of the objects 0 to k - 1, all with the least grade
abbrev pub flat_table : ℕ → List (List Row)
flat_table k = map (λ object. record { object = object; grade = 0 }) (range_with_len 0 k) ∷ []

-- all k objects of D are asked for, so no access is needed to fix them; yet both algorithms read k deep, as deep as the bounds allow
pub record MeetsBounds (V : List ℕ → ℕ) (k : ℕ) (D : List (List Row)) (Y : List ℕ) : Type 0 where
  pub asked : IsAsked k k D
  pub tamely : FixesTamely V k (length D) k D [] Y
  pub by_sorted : FixesBySorted V k (length D) k D [] Y
  pub ta_reads : ta_depth V k D ≡ 0 + k
  pub nra_reads : nra_depth V k D ≡ max 0 k

-- the bounds on the depths can't be lowered, whatever k is
abbrev pub BoundsAreMet : Type 0
BoundsAreMet = (V : List ℕ → ℕ) (k : ℕ) → IsMonotone V → 1 ≤ k → MeetsBounds V k (flat_table k) (objects_of (flat_table k))
