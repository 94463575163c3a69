-- Where a machine is in a run that reads a table depth by depth, each depth beginning with a row. Depths count from 1.
use Rattle.std.specs.Prelude.{◌≡◌, ◌<◌, ◌≤◌, ◌-◌, ℕ, Bool, false, List, ◌++◌, take}
use Rattle.ranked_list.specs.declared.row.Row.{Row}
use Rattle.topk_theory.specs.declared.access.Access.{Access}
use Rattle.topk_theory.specs.Threshold.{sorted_block}

-- the depth is one of the n of a table, and the algorithm stops at none above it
pub record IsReached (stops : ℕ → Bool) (n depth : ℕ) : Type 0 where
  pub positive : 1 ≤ depth
  pub within : depth ≤ n
  pub unstopped : (above : ℕ) → 1 ≤ above → above < depth → stops above ≡ false

-- what is read before a list at a depth: the run down to the depth above, and of this one the lists before
abbrev pub read_to : (ℕ → List Access) → List (List Row) → ℕ → ℕ → List Access
read_to run_to D depth list = run_to (depth - 1) ++ sorted_block 0 depth (take list D)
