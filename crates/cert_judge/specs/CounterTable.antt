-- The table against an object.
use Rattle.std.specs.Prelude.{◌≡◌, ◌≢◌, ℕ, List, Contains}
use Rattle.ranked_list.specs.declared.row.Row.{Row}
use Rattle.topk_theory.specs.Aggregate.{aggregate}
use Rattle.topk_theory.specs.Bounds.{low, high}
use Rattle.topk_theory.specs.Fixes.{IsOver}
use Rattle.topk_theory.specs.Adversary.{counter_table}
use Rattle.access_log.specs.Log.{Log, AgreesWith}
use Rattle.cert_judge.specs.Deciding.{judged_objects}

-- the table against an object, in which it has its low and every other object its high
pub record IsCounterTable (log : Log) (inside : ℕ) (D : List (List Row)) : Type 0 where
  pub exact : D ≡ counter_table log.lists log.count log.accesses inside
  pub agrees : AgreesWith D log
  pub over : IsOver (judged_objects log) D
  pub inside_has : (V : List ℕ → ℕ) → aggregate V D inside ≡ low V log.lists log.accesses inside
  pub others_have : (V : List ℕ → ℕ) (object : ℕ) → Contains (judged_objects log) object → object ≢ inside
      → aggregate V D object ≡ high V log.lists log.accesses object
