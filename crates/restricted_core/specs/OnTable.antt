-- Where a machine is in the run of its algorithm on a table that agrees with its transcript, and what its board has.
use Rattle.std.specs.Prelude.{◌≡◌, ◌-◌, ℕ, Bool, Option, List, [], ◌++◌, drop}
use Rattle.ranked_list.specs.declared.row.Row.{Row}
use Rattle.ranked_list.specs.declared.item.Item.{Item}
use Rattle.topk_theory.specs.declared.access.Access.{Access}
use Rattle.topk_theory.specs.Transcript.{seen_objects}
use Rattle.machine_base.specs.Depths.{IsReached}
use Rattle.machine_base.specs.declared.asking.Ask.{Ask}
use Rattle.machine_base.specs.Asking.{all_missing, LeavesAsks}
use Rattle.machine_base.specs.Board.{OnBoard}
use Rattle.algorithm_theory.specs.Restricted.{taz_stop, row_of_first, taz_run_to, taz_run}
use Rattle.restricted_core.specs.declared.stage.Stage.{Stage}
use Rattle.restricted_core.specs.declared.stage.Stage.TheVariants as stages

-- the depths above are read, and of this one the lists before the next; the objects behind the first ones wait
pub record OnRow (V : List ℕ → ℕ) (k n : ℕ) (Z : ℕ → Bool) (D : List (List Row)) (A : List Access) (items : List Item) (list depth whole : ℕ) : Type 0 where
  pub at : IsReached (taz_stop V k Z D) n depth
  pub made : A ≡ taz_run_to Z D (depth - 1) ++ row_of_first Z D depth list
  pub board : OnBoard V D A (drop whole (seen_objects A)) items

-- the rows of the depth are read too, and only unknown grades of the seen objects are left down to it, of those from a place on
pub record OnAsks (V : List ℕ → ℕ) (k n : ℕ) (Z : ℕ → Bool) (D : List (List Row)) (A : List Access) (items : List Item) (depth whole place : ℕ) : Type 0 where
  pub at : IsReached (taz_stop V k Z D) n depth
  pub made : A ++ all_missing D A (drop place (seen_objects A)) ≡ taz_run_to Z D depth
  pub board : OnBoard V D A (drop whole (seen_objects A)) items

-- the rows of the depth are read too, and down to it only what is asked next and the asks behind it are left
pub record OnLeft (V : List ℕ → ℕ) (k n : ℕ) (Z : ℕ → Bool) (D : List (List Row)) (A : List Access) (items : List Item) (depth whole : ℕ) (next : Option Ask) : Type 0 where
  pub at : IsReached (taz_stop V k Z D) n depth
  pub left : LeavesAsks D A (seen_objects A) (taz_run_to Z D depth) next
  pub board : OnBoard V D A (drop whole (seen_objects A)) items

-- nothing is left, and no object waits
pub record OnEnd (V : List ℕ → ℕ) (k : ℕ) (Z : ℕ → Bool) (D : List (List Row)) (A : List Access) (items : List Item) : Type 0 where
  pub made : A ≡ taz_run V k Z D
  pub board : OnBoard V D A [] items

-- the machine is on the run of the table
abbrev pub OnTable : (List ℕ → ℕ) → ℕ → ℕ → (ℕ → Bool) → List (List Row) → List Access → List Item → Stage → Type 0
OnTable V k n Z D A items (stages.Row list depth whole) = OnRow V k n Z D A items list depth whole
OnTable V k n Z D A items (stages.Asking ask depth whole) = OnAsks V k n Z D A items depth whole ask.place
OnTable V k n Z D A items stages.Done = OnEnd V k Z D A items
