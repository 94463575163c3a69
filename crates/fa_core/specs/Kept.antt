-- What a machine keeps.
use Rattle.std.specs.Prelude.{◌≡◌, ◌<◌, ◌≤◌, ℕ, List, []}
use Rattle.ranked_list.specs.declared.row.Row.{Row}
use Rattle.ranked_list.specs.declared.item.Item.{Item}
use Rattle.monotone_fn.specs.Tree.{Tree}
use Rattle.topk_theory.specs.declared.access.Access.{Access}
use Rattle.topk_theory.specs.Transcript.{Agrees, random_rows, seen_objects}
use Rattle.machine_base.specs.declared.base.Base.{Base}
use Rattle.machine_base.specs.Base.{IsHeld, IsReserved}
use Rattle.machine_base.specs.Asking.{IsAsking, AreAsked}
use Rattle.algorithm_theory.specs.Fagin.{known_whole}
use Rattle.fa_core.specs.declared.stage.Stage.{Stage}
use Rattle.fa_core.specs.declared.stage.Stage.TheVariants as stages
use Rattle.fa_core.specs.OnTable.{OnTable}

-- in a row no list was asked for a grade, and the objects that have all their grades are counted
pub record IsInRow (m : ℕ) (A : List Access) (list common : ℕ) : Type 0 where
  pub listed : list < m
  pub unasked : (other : ℕ) → random_rows other A ≡ []
  pub counted : common ≡ known_whole m A

-- what is so of a stage, whatever the table
abbrev pub IsSound : ℕ → List Access → Stage → Type 0
IsSound m A (stages.Row list depth common) = IsInRow m A list common
IsSound m A (stages.Asking ask) = IsAsking m A (seen_objects A) ask
IsSound m A stages.Done = AreAsked m A (seen_objects A)

-- what is kept over m lists of n objects after the accesses A
pub record IsFaKept (e : Tree) (k room m n : ℕ) (A : List Access) (stage : Stage) : Type 0 where
  pub base : IsHeld e k room m n A
  pub sound : IsSound m A stage
  pub on_table : (D : List (List Row)) → Agrees m n D A → OnTable k n D A stage

abbrev pub Keeps : Base → Stage → Type 0
Keeps base stage = IsFaKept base.expr base.k base.room base.transcript.lists base.transcript.count base.transcript.accesses stage

-- and room is reserved for the accesses to come, and for the items of the seen objects, of which there are none yet
pub record Stands (base : Base) (items : List Item) (capacity : ℕ) (stage : Stage) : Type 0 where
  pub kept : Keeps base stage
  pub reserved : IsReserved base
  pub none : items ≡ []
  pub roomy : base.room ≤ capacity
