-- What a machine keeps.
use Rattle.std.specs.Prelude.{◌≡◌, ◌≢◌, ◌<◌, ◌≤◌, ℕ, false, List, ◌++◌, length, drop, All, Contains, slice_index}
use Rattle.ranked_list.specs.declared.row.Row.{Row}
use Rattle.machine_base.specs.Held.{Held}
use Rattle.monotone_fn.specs.Tree.{Tree}
use Rattle.monotone_fn.specs.Value.{value}
use Rattle.monotone_fn.specs.Limits.{AreGrades}
use Rattle.topk_theory.specs.declared.access.Access.{Access}
use Rattle.topk_theory.specs.Transcript.{Agrees, seen_objects}
use Rattle.machine_base.specs.declared.base.Base.{Base}
use Rattle.machine_base.specs.Base.{IsHeld, IsReserved}
use Rattle.ta_core.specs.declared.halting.Halting.{Halting}
use Rattle.ta_core.specs.Halting.{Rule, IsFit, passes_by}
use Rattle.ta_core.specs.Reading.{RowProgress, first_or_zero}
use Rattle.ta_core.specs.OnTable.{OnTable}

-- what a reading of m lists is, whatever the table: the objects that wait are the last of the seen ones
pub record IsSound (m : ℕ) (A : List Access) (r : RowProgress) : Type 0 where
  pub waiting_last : (before : List ℕ) × (seen_objects A ≡ before ++ r.waiting)
  pub objects_seen : All (Contains (seen_objects A)) r.objects
  pub same_length : length r.bottoms ≡ length r.objects
  pub within : length r.objects ≤ m
  pub few : length r.waiting ≤ length r.objects
  pub bottoms_capped : AreGrades r.bottoms
  pub grades_capped : AreGrades r.grades
  pub later : (object : ℕ) → Contains (drop 1 r.waiting) object → slice_index r.objects 0 ≢ object

-- between accesses: in a row no grades are there, and after it the first object that waits misses one
pub record IsAtRest (m : ℕ) (r : RowProgress) : Type 0 where
  pub in_row : length r.objects < m → length r.grades ≡ 0
  pub after_row : r.done ≡ false → m ≤ length r.objects
      → (0 < length r.waiting) × (length r.grades < m) × (slice_index r.objects (length r.grades) ≢ first_or_zero r.waiting)

-- what is kept over m lists of n objects after the accesses A
pub record IsTaKept (passes : Rule) (e : Tree) (k room m n : ℕ) (A : List Access) (board : Held) (r : RowProgress) : Type 0 where
  pub base : IsHeld e k room m n A
  pub fit : IsFit passes
  pub same_k : board.k ≡ k
  pub same_room : board.room ≡ room
  pub sound : IsSound m A r
  pub rest : IsAtRest m r
  pub on_table : (D : List (List Row)) → Agrees m n D A → OnTable (value e) (record { k = k; passes = passes }) n D A r board.items

abbrev pub Keeps : Rule → Base → Held → RowProgress → Type 0
Keeps passes base board r = IsTaKept passes base.expr base.k base.room base.transcript.lists base.transcript.count base.transcript.accesses board r

-- and room is reserved for the accesses to come
pub record Stands (rule : Halting) (base : Base) (board : Held) (r : RowProgress) : Type 0 where
  pub kept : Keeps (passes_by rule) base board r
  pub reserved : IsReserved base
