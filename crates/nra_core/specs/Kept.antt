-- What a machine keeps.
use Rattle.std.specs.Prelude.{◌≡◌, ◌<◌, ◌≤◌, ℕ, true, List, [], length}
use Rattle.ranked_list.specs.declared.row.Row.{Row}
use Rattle.ranked_list.specs.declared.item.Item.{Item}
use Rattle.monotone_fn.specs.Tree.{Tree}
use Rattle.monotone_fn.specs.Value.{value}
use Rattle.topk_theory.specs.declared.access.Access.{Access}
use Rattle.topk_theory.specs.Transcript.{Agrees, seen_objects}
use Rattle.nra_core.specs.declared.late.LateBounds.{LateBounds}
use Rattle.nra_core.specs.LatePlaces.{IsLateAfter}
use Rattle.machine_base.specs.declared.base.Base.{Base}
use Rattle.machine_base.specs.Base.{IsHeld, IsReserved}
use Rattle.nra_core.specs.declared.place.Place.{Place}
use Rattle.nra_core.specs.OnTable.{OnTable}

-- what is kept over m lists of n objects after the accesses A
pub record IsNraKept (e : Tree) (k room m n : ℕ) (A : List Access) (late : LateBounds) (place : Place) : Type 0 where
  pub base : IsHeld e k room m n A
  pub in_row : place.list < m
  pub bounds : IsLateAfter e m A late
  pub asked : late.k ≡ k
  pub enough : place.done ≡ true → k ≤ length (seen_objects A)
  pub on_table : (D : List (List Row)) → Agrees m n D A → OnTable (value e) k n D A place

abbrev pub Keeps : Base → LateBounds → Place → Type 0
Keeps base late place = IsNraKept base.expr base.k base.room base.transcript.lists base.transcript.count base.transcript.accesses late place

-- and room is reserved for the accesses to come, for as many objects as may be seen, and for the items of the answer, of which there are none yet
pub record Stands (base : Base) (late : LateBounds) (items : List Item) (capacity : ℕ) (place : Place) : Type 0 where
  pub kept : Keeps base late place
  pub reserved : IsReserved base
  pub bounded : base.room ≤ late.first.room
  pub none : items ≡ []
  pub roomy : base.room ≤ capacity
