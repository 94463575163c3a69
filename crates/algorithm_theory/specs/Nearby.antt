-- The threshold algorithm stopped within a factor, and stopped early: at which depth, what it reads and what it answers. Depths count from 1.
use Rattle.std.specs.Prelude.{◌≡◌, ◌<◌, ◌≤◌, ◌-◌, ◌*◌, ◌||◌, ◌&&◌, ℕ, Bool, true, false, List, length, map, count_by, nat_le}
use Rattle.ranked_list.specs.declared.row.Row.{Row}
use Rattle.ranked_list.specs.declared.item.Item.{Item}
use Rattle.topk_theory.specs.Order.{first_k}
use Rattle.topk_theory.specs.declared.access.Access.{Access}
use Rattle.topk_theory.specs.Aggregate.{objects_of, aggregate}
use Rattle.topk_theory.specs.Threshold.{objects_to, threshold_at, ta_stop, least_from, scored, ta_run_to}
use Rattle.topk_theory.specs.Asked.{Run, Answering}
use Rattle.algorithm_theory.specs.Within.{Factor}

-- the first k of the objects down to a depth, by aggregate falling, then by number rising
abbrev pub first_at : (List ℕ → ℕ) → ℕ → List (List Row) → ℕ → List Item
first_at V k D depth = first_k k (map (scored V D) (objects_to D depth))

-- at least k of the objects down to this depth have an aggregate that, times the factor, is at least the threshold
abbrev pub theta_stop : (List ℕ → ℕ) → ℕ → Factor → List (List Row) → ℕ → Bool
theta_stop V k factor D depth =
    nat_le k (count_by (λ object. nat_le (factor.q * threshold_at V D depth) (factor.p * aggregate V D object)) (objects_to D depth))

-- the least depth at which they do
abbrev pub theta_depth : (List ℕ → ℕ) → ℕ → Factor → List (List Row) → ℕ
theta_depth V k factor D = least_from (theta_stop V k factor D) (length (objects_of D) - 1) 1

-- what is read down to there, and what is answered
abbrev pub theta_run : (List ℕ → ℕ) → ℕ → Factor → List (List Row) → List Access
theta_run V k factor D = ta_run_to D (theta_depth V k factor D)

abbrev pub theta_answer : (List ℕ → ℕ) → ℕ → Factor → List (List Row) → List Item
theta_answer V k factor D = first_at V k D (theta_depth V k factor D)

-- at least k objects stand in the first depth places of some list
abbrev pub has_enough : ℕ → List (List Row) → ℕ → Bool
has_enough k D depth = nat_le k (length (objects_to D depth))

-- the threshold algorithm stops at this depth, or it is the given one or a lower one and at least k objects were seen
abbrev pub early_stop : (List ℕ → ℕ) → ℕ → ℕ → List (List Row) → ℕ → Bool
early_stop V k from D depth = ta_stop V k D depth || (nat_le from depth && has_enough k D depth)

-- the least such depth
abbrev pub early_depth : (List ℕ → ℕ) → ℕ → ℕ → List (List Row) → ℕ
early_depth V k from D = least_from (early_stop V k from D) (length (objects_of D) - 1) 1

-- what is read down to there, and what is answered
abbrev pub early_run : (List ℕ → ℕ) → ℕ → ℕ → List (List Row) → List Access
early_run V k from D = ta_run_to D (early_depth V k from D)

abbrev pub early_answer : (List ℕ → ℕ) → ℕ → ℕ → List (List Row) → List Item
early_answer V k from D = first_at V k D (early_depth V k from D)

-- the least depth from the given one on at which at least k objects were seen
abbrev pub enough_depth : ℕ → ℕ → List (List Row) → ℕ
enough_depth k from D = least_from (has_enough k D) (length (objects_of D) - from) from

-- the run and the answer of each, of what an algorithm is asked
abbrev pub within_run : Factor → Run
within_run factor asked D = theta_run asked.value asked.k factor D

abbrev pub within_answer : Factor → Answering
within_answer factor asked D = theta_answer asked.value asked.k factor D

abbrev pub early_stopped_run : ℕ → Run
early_stopped_run from asked D = early_run asked.value asked.k from D

abbrev pub early_stopped_answer : ℕ → Answering
early_stopped_answer from asked D = early_answer asked.value asked.k from D

-- the depth is the least from 1 on that passes a test, and is at most n
pub record IsLeastPassing (stops : ℕ → Bool) (n depth : ℕ) : Type 0 where
  pub from_one : 1 ≤ depth
  pub within : depth ≤ n
  pub stops_there : stops depth ≡ true
  pub least : (other : ℕ) → 1 ≤ other → other < depth → stops other ≡ false
