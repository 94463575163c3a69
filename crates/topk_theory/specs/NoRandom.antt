-- The algorithm without random access on a whole table: where it is quiet, what it reads and what it answers. Depths count from 1.
use Rattle.std.specs.Prelude.{ℕ, zero, suc, ◌-◌, ◌==◌, ◌≡◌, ◌<◌, ◌≤◌, false, Bool, true, not, ◌&&◌, ◌||◌, List, [], ◌++◌, length, map, Option, Some, None, nat_lt, nat_le}
use Rattle.std.specs.List.{list_any, list_all}
use Rattle.ranked_list.specs.declared.row.Row.{Row}
use Rattle.ranked_list.specs.declared.item.Item.{Item}
use Rattle.topk_theory.specs.Order.{first_k, kth_low}
use Rattle.topk_theory.specs.declared.access.Access.{Access}
use Rattle.topk_theory.specs.Aggregate.{objects_of}
use Rattle.topk_theory.specs.Transcript.{seen_objects}
use Rattle.topk_theory.specs.Bounds.{bounded, high}
use Rattle.topk_theory.specs.Threshold.{sorted_block, least_from}

-- the seen objects with their bounds
abbrev pub seen_items : (List ℕ → ℕ) → ℕ → List Access → List Item
seen_items V m A = map (bounded V m A) (seen_objects A)

-- the first k seen objects by low falling, then high falling, then number rising
abbrev pub first_seen : (List ℕ → ℕ) → ℕ → ℕ → List Access → List Item
first_seen V k m A = first_k k (seen_items V m A)

-- the number is above the bound, or there is no bound
abbrev pub exceeds : Option ℕ → ℕ → Bool
exceeds None number = true
exceeds (Some bound) number = nat_lt bound number

-- an object is viable where fewer than k objects were seen or its high is above the k-th largest low
abbrev pub is_viable : (List ℕ → ℕ) → ℕ → ℕ → List Access → ℕ → Bool
is_viable V k m A object = exceeds (kth_low k (seen_items V m A)) (high V m A object)

-- at least k objects were seen, and no object of the table outside the first k is viable
abbrev pub is_quiet : (List ℕ → ℕ) → ℕ → ℕ → List (List Row) → List Access → Bool
is_quiet V k m D A =
    nat_le k (length (seen_objects A))
    && list_all (λ object. list_any (λ item. item.object == object) (first_seen V k m A) || not (is_viable V k m A object)) (objects_of D)

-- the sorted accesses at each place down to a depth
abbrev pub nra_run_to : List (List Row) → ℕ → List Access
nra_run_to D zero = []
nra_run_to D (suc depth) = nra_run_to D depth ++ sorted_block 0 (suc depth) D

-- the least depth at which the algorithm is quiet
abbrev pub nra_depth : (List ℕ → ℕ) → ℕ → List (List Row) → ℕ
nra_depth V k D = least_from (λ depth. is_quiet V k (length D) D (nra_run_to D depth)) (length (objects_of D) - 1) 1

-- what the algorithm reads, and what it answers
abbrev pub nra_run : (List ℕ → ℕ) → ℕ → List (List Row) → List Access
nra_run V k D = nra_run_to D (nra_depth V k D)

abbrev pub nra_answer : (List ℕ → ℕ) → ℕ → List (List Row) → List Item
nra_answer V k D = first_seen V k (length D) (nra_run V k D)

-- the depth is the least from 1 on at which the algorithm is quiet, and is at most n
pub record IsLeastQuiet (V : List ℕ → ℕ) (k n : ℕ) (D : List (List Row)) (depth : ℕ) : Type 0 where
  pub from_one : 1 ≤ depth
  pub within : depth ≤ n
  pub quiet : is_quiet V k (length D) D (nra_run_to D depth) ≡ true
  pub least : (other : ℕ) → 1 ≤ other → other < depth → is_quiet V k (length D) D (nra_run_to D other) ≡ false
