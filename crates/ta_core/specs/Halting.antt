-- When the machine halts, and what it reads and answers then, on a whole table. Depths count from 1.
use Rattle.std.specs.Prelude.{◌≡◌, ◌≤◌, ◌-◌, ◌*◌, ◌||◌, ℕ, Bool, true, List, length, map, count_by, nat_le}
use Rattle.ranked_list.specs.declared.row.Row.{Row}
use Rattle.ranked_list.specs.declared.item.Item.{Item}
use Rattle.topk_theory.specs.Order.{first_k}
use Rattle.topk_theory.specs.declared.access.Access.{Access}
use Rattle.topk_theory.specs.Aggregate.{objects_of, aggregate}
use Rattle.topk_theory.specs.Threshold.{objects_to, threshold_at, least_from, scored, ta_run_to}
use Rattle.ta_core.specs.declared.halting.Halting.{Halting}
use Rattle.ta_core.specs.declared.halting.Halting.TheVariants.{Exact, Within, Early}

-- whether an object passes at a depth with such a threshold, by its aggregate
abbrev pub Rule : Type 0
Rule = ℕ → ℕ → ℕ → Bool

-- a rule by which a machine can halt: who reaches the threshold passes, and whoever has more than one that passes
pub record IsFit (passes : Rule) : Type 0 where
  pub reached : (depth threshold aggregate : ℕ) → threshold ≤ aggregate → passes depth threshold aggregate ≡ true
  pub upward : (depth threshold one other : ℕ) → one ≤ other → passes depth threshold one ≡ true → passes depth threshold other ≡ true

-- how many objects have to pass, and by which rule
pub record Halt : Type 0 where
  pub k : ℕ
  pub passes : Rule

-- at least k of the objects down to this depth pass
abbrev pub halts_at : (List ℕ → ℕ) → Halt → List (List Row) → ℕ → Bool
halts_at V halt D depth = nat_le halt.k (count_by (λ object. halt.passes depth (threshold_at V D depth) (aggregate V D object)) (objects_to D depth))

-- the least depth at which they do
abbrev pub halting_depth : (List ℕ → ℕ) → Halt → List (List Row) → ℕ
halting_depth V halt D = least_from (halts_at V halt D) (length (objects_of D) - 1) 1

-- what is read down to this depth
abbrev pub halting_run : (List ℕ → ℕ) → Halt → List (List Row) → List Access
halting_run V halt D = ta_run_to D (halting_depth V halt D)

-- the first k of the objects down to this depth, by aggregate falling, then by number rising
abbrev pub halting_answer : (List ℕ → ℕ) → Halt → List (List Row) → List Item
halting_answer V halt D = first_k halt.k (map (scored V D) (objects_to D (halting_depth V halt D)))

-- the rules: an aggregate of at least the threshold; one for which p times it is at least q times the threshold; the first,
-- and from a depth on each
abbrev pub passes_by : Halting → Rule
passes_by Exact depth threshold aggregate = nat_le threshold aggregate
passes_by (Within p q) depth threshold aggregate = nat_le (q * threshold) (p * aggregate)
passes_by (Early from) depth threshold aggregate = nat_le from depth || nat_le threshold aggregate

-- a factor is at least 1
abbrev pub IsFair : Halting → Type 0
IsFair Exact = Unit {0}
IsFair (Within p q) = q ≤ p
IsFair (Early from) = Unit {0}
