-- What a machine keeps.
use Rattle.std.specs.Prelude.{◌≡◌, ◌<◌, ◌≤◌, ℕ, List, []}
use Rattle.ranked_list.specs.declared.row.Row.{Row}
use Rattle.ranked_list.specs.declared.item.Item.{Item}
use Rattle.monotone_fn.specs.Tree.{Tree}
use Rattle.monotone_fn.specs.Value.{value}
use Rattle.topk_theory.specs.declared.access.Access.{Access}
use Rattle.topk_theory.specs.Transcript.{Agrees}
use Rattle.topk_theory.specs.Threshold.{item_objects}
use Rattle.topk_theory.specs.Combined.{phase_length}
use Rattle.machine_base.specs.declared.base.Base.{Base}
use Rattle.machine_base.specs.Base.{IsHeld, IsReserved}
use Rattle.machine_base.specs.Asking.{IsAskedFor, IsAsking, AreAsked}
use Rattle.ca_core.specs.declared.late_seen.LateSeen.{LateSeen}
use Rattle.ca_core.specs.declared.stage.Stage.{Stage}
use Rattle.ca_core.specs.declared.stage.Stage.TheVariants as stages
use Rattle.ca_core.specs.Seen.{AreRenewed}
use Rattle.ca_core.specs.OnTable.{OnTable}

-- what is so of a stage, whatever the table
abbrev pub IsSound : ℕ → List Access → List ℕ → Stage → Type 0
IsSound m A objects (stages.Row list depth) = (list < m) × (objects ≡ [])
IsSound m A objects (stages.Choice list object depth) = IsAskedFor m A object list × (objects ≡ [])
IsSound m A objects (stages.Finish ask) = IsAsking m A objects ask
IsSound m A objects stages.Done = AreAsked m A objects

-- what is kept over m lists of n objects after the accesses A
pub record IsCaKept (e : Tree) (k phase room m n : ℕ) (A : List Access) (first : List Item) (stage : Stage) : Type 0 where
  pub base : IsHeld e k room m n A
  pub sound : IsSound m A (item_objects first) stage
  pub on_table : (D : List (List Row)) → Agrees m n D A → OnTable (value e) k phase n D A (item_objects first) stage

abbrev pub Keeps : Base → ℕ → List Item → Stage → Type 0
Keeps base phase first stage = IsCaKept base.expr base.k phase base.room base.transcript.lists base.transcript.count base.transcript.accesses first stage

-- and what is kept of the seen objects, and the room that is reserved
pub record Stands (base : Base) (phase : ℕ) (late : LateSeen) (first : List Item) (capacity : ℕ) (stage : Stage) : Type 0 where
  pub kept : Keeps base phase first stage
  pub seen : AreRenewed base.expr base.k base.room base.transcript.lists base.transcript.accesses late
  pub reserved : IsReserved base
  pub paid : phase ≡ phase_length base.costs.sorted base.costs.random
  pub roomy : base.room ≤ capacity
