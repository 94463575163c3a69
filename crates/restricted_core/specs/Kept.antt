-- What a machine keeps.
use Rattle.std.specs.Prelude.{◌≡◌, ◌<◌, ◌≤◌, ◌+◌, ℕ, Bool, true, List, length, take, drop}
use Rattle.ranked_list.specs.declared.row.Row.{Row}
use Rattle.monotone_fn.specs.Tree.{Tree}
use Rattle.monotone_fn.specs.Value.{value}
use Rattle.topk_theory.specs.declared.access.Access.{Access}
use Rattle.topk_theory.specs.Transcript.{Agrees, seen_objects}
use Rattle.machine_base.specs.Held.{Held}
use Rattle.machine_base.specs.declared.base.Base.{Base}
use Rattle.machine_base.specs.Base.{IsHeld, IsReserved}
use Rattle.machine_base.specs.Asking.{ask_from, AreKnown, IsAsking, AsksNext}
use Rattle.algorithm_theory.specs.Restricted.{HasOne}
use Rattle.restricted_core.specs.declared.stage.Stage.{Stage}
use Rattle.restricted_core.specs.declared.stage.Stage.TheVariants as stages
use Rattle.restricted_core.specs.Lists.{reads}
use Rattle.restricted_core.specs.OnTable.{OnRow, OnLeft, OnTable}

-- the first so many seen objects have all their grades
pub record AreWhole (m : ℕ) (A : List Access) (whole : ℕ) : Type 0 where
  pub within : whole ≤ length (seen_objects A)
  pub known : AreKnown m A (take whole (seen_objects A))

-- the row is that of a list that can be read in order
pub record IsInRow (sorted : List Bool) (m : ℕ) (A : List Access) (list whole : ℕ) : Type 0 where
  pub listed : list < m
  pub readable : reads sorted list ≡ true
  pub full : AreWhole m A whole

-- what is so of a stage, whatever the table
abbrev pub IsSound : List Bool → ℕ → List Access → Stage → Type 0
IsSound sorted m A (stages.Row list depth whole) = IsInRow sorted m A list whole
IsSound sorted m A (stages.Asking ask depth whole) = IsAsking m A (seen_objects A) ask × (whole ≤ length (seen_objects A))
IsSound sorted m A stages.Done = Unit {0}

-- what never changes over m lists, some of which can be read in order: the board is for k objects, and has the room in force
pub record IsFor (k room m : ℕ) (sorted : List Bool) (board : Held) : Type 0 where
  pub one_each : length sorted ≡ m
  pub some : HasOne (reads sorted) m
  pub same_k : board.k ≡ k
  pub same_room : board.room ≡ room

-- what is kept over m lists of n objects after the accesses A
pub record IsTazKept (e : Tree) (k room m n : ℕ) (A : List Access) (sorted : List Bool) (board : Held) (stage : Stage) : Type 0 where
  pub base : IsHeld e k room m n A
  pub fits : IsFor k room m sorted board
  pub sound : IsSound sorted m A stage
  pub on_table : (D : List (List Row)) → Agrees m n D A → OnTable (value e) k n (reads sorted) D A board.items stage

abbrev pub Keeps : Base → List Bool → Held → Stage → Type 0
Keeps base sorted board stage = IsTazKept base.expr base.k base.room base.transcript.lists base.transcript.count base.transcript.accesses sorted board stage

-- the row of a list was told
pub record IsRowKept (e : Tree) (k room m n : ℕ) (A : List Access) (sorted : List Bool) (board : Held) (list depth whole : ℕ) : Type 0 where
  pub base : IsHeld e k room m n A
  pub fits : IsFor k room m sorted board
  pub listed : list < m
  pub full : AreWhole m A whole
  pub on_table : (D : List (List Row)) → Agrees m n D A → OnRow (value e) k n (reads sorted) D A board.items (list + 1) depth whole

abbrev pub IsRowTold : Base → List Bool → Held → ℕ → ℕ → ℕ → Type 0
IsRowTold base sorted board list depth whole =
    IsRowKept base.expr base.k base.room base.transcript.lists base.transcript.count base.transcript.accesses sorted board list depth whole

-- all rows of a depth were told, and the seen objects before a place were asked for their grades: what is asked next
pub record IsOverKept (e : Tree) (k room m n : ℕ) (A : List Access) (sorted : List Bool) (board : Held) (depth whole place : ℕ) : Type 0 where
  pub base : IsHeld e k room m n A
  pub fits : IsFor k room m sorted board
  pub within : whole ≤ length (seen_objects A)
  pub asks : AsksNext m A (seen_objects A) (ask_from m A (drop place (seen_objects A)) place)
  pub on_table : (D : List (List Row)) → Agrees m n D A
      → OnLeft (value e) k n (reads sorted) D A board.items depth whole (ask_from m A (drop place (seen_objects A)) place)

abbrev pub IsRowOver : Base → List Bool → Held → ℕ → ℕ → ℕ → Type 0
IsRowOver base sorted board depth whole place =
    IsOverKept base.expr base.k base.room base.transcript.lists base.transcript.count base.transcript.accesses sorted board depth whole place

-- and room is reserved for the accesses to come
pub record Stands (base : Base) (sorted : List Bool) (board : Held) (stage : Stage) : Type 0 where
  pub kept : Keeps base sorted board stage
  pub reserved : IsReserved base
