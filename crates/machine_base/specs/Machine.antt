-- What contracts see of a machine that makes an algorithm's run, and what each of its calls promises.
use Rattle.std.specs.Prelude.{◌≡◌, ◌<◌, ◌≤◌, ◌⊎◌, ◌+◌, ℕ, min, List, [], ◌∷◌, ◌++◌, length, Contains, Result, Ok, Err}
use Rattle.ranked_list.specs.declared.row.Row.{Row}
use Rattle.ranked_list.specs.declared.item.Item.{Item}
use Rattle.ranked_list.specs.declared.need.Need.{Need}
use Rattle.ranked_list.specs.declared.need.Need.TheVariants.{Row as RowAt, Grade, Done}
use Rattle.monotone_fn.specs.declared.costs.Costs.{Costs}
use Rattle.monotone_fn.specs.Tree.{Tree}
use Rattle.monotone_fn.specs.Shape.{list_count}
use Rattle.monotone_fn.specs.Value.{value}
use Rattle.topk_theory.specs.declared.access.Access.{Access}
use Rattle.topk_theory.specs.declared.access.Access.TheVariants.{Sorted, Random}
use Rattle.topk_theory.specs.Aggregate.{IsTop}
use Rattle.topk_theory.specs.Transcript.{seen_objects, depth_of}
use Rattle.topk_theory.specs.Consistent.{Kind, IsOfKind}
use Rattle.topk_theory.specs.Consistent.Kind.{too_many_objects}
use Rattle.topk_theory.specs.Fixes.{Fixes}
use Rattle.topk_theory.specs.Threshold.{item_objects}
use Rattle.topk_theory.specs.Asked.{Asked, Run, Answering}
use Rattle.topk_theory.specs.Machine.{IsAt, CanServe}
use Rattle.access_log.specs.Log.{Log, AgreesWith, IsConsistent}
use Rattle.machine_base.specs.declared.core_fault.CoreFault.{CoreFault}
use Rattle.machine_base.specs.declared.core_fault.CoreFault.TheVariants.{Strangers, RoomFull}

-- the query, the room in force, the transcript, and what is needed next
pub record MachineState : Type 0 where
  pub expr : Tree
  pub k : ℕ
  pub room : ℕ
  pub costs : Costs
  pub log : Log
  pub need : Need

-- what a machine's algorithm is asked
abbrev pub asked_of : MachineState → Asked
asked_of t = record { value = value t.expr; k = t.k; costs = t.costs }

-- the logs have the same lists, the same count and the same accesses
pub record IsSameLog (one other : Log) : Type 0 where
  pub lists : one.lists ≡ other.lists
  pub count : one.count ≡ other.count
  pub accesses : one.accesses ≡ other.accesses

-- the log is the one before with one more access
pub record IsOneMore (access : Access) (before after : Log) : Type 0 where
  pub lists : after.lists ≡ before.lists
  pub count : after.count ≡ before.count
  pub accesses : after.accesses ≡ before.accesses ++ access ∷ []

-- what never changes of a machine over m lists of n objects: it is asked for at least one object and for no more than there are,
-- over the lists of its expression, and may see at least one and no more than there are
pub record IsPosed (expr : Tree) (k room m n : ℕ) : Type 0 where
  pub positive : 1 ≤ k
  pub fits : k ≤ n
  pub lists : m ≡ list_count expr
  pub roomy : 1 ≤ room
  pub room_fits : room ≤ n

-- the machine is asked for the first k of n objects at these costs, may see so many of them and no more than there are, and has made no access yet
pub record IsBegun (e : Tree) (k n room : ℕ) (c : Costs) (t : MachineState) : Type 0 where
  pub expr : t.expr ≡ e
  pub asked : t.k ≡ k
  pub in_force : t.room ≡ min room n
  pub costs : t.costs ≡ c
  pub lists : t.log.lists ≡ list_count e
  pub count : t.log.count ≡ n
  pub none : t.log.accesses ≡ []

-- the need is of one of the lists; a row's depth is the next one of its list, and one that the list has
pub record IsNextRow (log : Log) (list depth : ℕ) : Type 0 where
  pub listed : list < log.lists
  pub next : depth ≡ depth_of list log.accesses + 1
  pub from_one : 1 ≤ depth
  pub within : depth ≤ log.count

abbrev pub IsInRange : Log → Need → Type 0
IsInRange log (RowAt list depth) = IsNextRow log list depth
IsInRange log (Grade list object) = list < log.lists
IsInRange log Done = Unit {0}

-- a grade is needed of an object that was seen: no wild guess
abbrev pub IsOfSeen : Log → Need → Type 0
IsOfSeen log (RowAt list depth) = Unit {0}
IsOfSeen log (Grade list object) = Contains (seen_objects log.accesses) object
IsOfSeen log Done = Unit {0}

-- no grade is needed
abbrev pub IsNoGrade : Need → Type 0
IsNoGrade (RowAt list depth) = Unit {0}
IsNoGrade (Grade list object) = ⊥
IsNoGrade Done = Unit {0}

-- on every table that agrees with the transcript, and some table does, the transcript is how the algorithm's run begins,
-- the need is the run's next access, or done exactly at its end, and the table can serve it
pub record MakesRun (run : Run) (t : MachineState) : Type 0 where
  pub posed : IsPosed t.expr t.k t.room t.log.lists t.log.count
  pub consistent : IsConsistent t.log
  pub on_run : (D : List (List Row)) → AgreesWith D t.log → IsAt (run (asked_of t) D) t.log.accesses t.need
  pub served : (D : List (List Row)) → AgreesWith D t.log → CanServe D t.need
  pub tame : IsOfSeen t.log t.need

-- the need is a row, and this one can be it: no kind of inconsistency, but for an object too many
abbrev pub MayBeNextRow : Log → Need → Row → Type 0
MayBeNextRow log (RowAt list depth) row =
    (kind : Kind) → IsOfKind log.lists log.count log.accesses (Sorted list row.object row.grade) kind → kind ≡ too_many_objects
MayBeNextRow _ _ _ = ⊥

-- the need is a grade, and this one can be it
abbrev pub MayBeNextGrade : Log → Need → ℕ → Type 0
MayBeNextGrade log (Grade list object) grade = (kind : Kind) → ¬ IsOfKind log.lists log.count log.accesses (Random list object grade) kind
MayBeNextGrade _ _ _ = ⊥

-- the access that a row or a grade makes of the need; for another need nothing is fed, and the access has no meaning
abbrev pub row_access : Need → Row → Access
row_access (RowAt list depth) row = Sorted list row.object row.grade
row_access (Grade list object) row = Random list object row.grade
row_access Done row = Sorted 0 row.object row.grade

abbrev pub grade_access : Need → ℕ → Access
grade_access (RowAt list depth) grade = Sorted list 0 grade
grade_access (Grade list object) grade = Random list object grade
grade_access Done grade = Random 0 0 grade

-- the machine with one more access, whatever it needs then
pub record Takes (access : Access) (before after : MachineState) : Type 0 where
  pub expr : after.expr ≡ before.expr
  pub k : after.k ≡ before.k
  pub room : after.room ≡ before.room
  pub costs : after.costs ≡ before.costs
  pub log : IsOneMore access before.log after.log

-- the object is seen already, or there is room for one more
abbrev pub HasRoomFor : MachineState → ℕ → Type 0
HasRoomFor t object = Contains (seen_objects t.log.accesses) object ⊎ (length (seen_objects t.log.accesses) < t.room)

-- what becomes of a row: an object for which there is no room is a stranger where the room is the count, and else the room is full
abbrev pub RowFed : Row → MachineState → MachineState → {A : Type 0} → Result A CoreFault → Type 0
RowFed row before after (Ok done) = HasRoomFor before row.object × Takes (row_access before.need row) before after
RowFed row before after (Err (Strangers object count)) =
    (¬ HasRoomFor before row.object) × (before.room ≡ before.log.count) × (object ≡ row.object) × (count ≡ before.log.count) × (after ≡ before)
RowFed row before after (Err (RoomFull room)) = (¬ HasRoomFor before row.object) × (before.room < before.log.count) × (room ≡ before.room) × (after ≡ before)

-- what becomes of a grade
abbrev pub GradeFed : ℕ → MachineState → MachineState → Type 0
GradeFed grade before after = Takes (grade_access before.need grade) before after

-- the items are the algorithm's answer on every table that agrees with the transcript
pub record AreExact (answer : Answering) (t : MachineState) (items : List Item) : Type 0 where
  pub on_each : (D : List (List Row)) → AgreesWith D t.log → items ≡ answer (asked_of t) D

-- their objects are a top k of every table that agrees
pub record AreTop (t : MachineState) (items : List Item) : Type 0 where
  pub on_each : (D : List (List Row)) → AgreesWith D t.log → IsTop (value t.expr) t.k D (item_objects items)

-- the transcript fixes their objects
pub record AreFixed (t : MachineState) (items : List Item) : Type 0 where
  pub fixes : Fixes (value t.expr) t.k t.log.lists t.log.count t.log.accesses (item_objects items)

-- the items are the algorithm's answer, a top k, and fixed
pub record IsAnswerBy (answer : Answering) (t : MachineState) (items : List Item) : Type 0 where
  pub exact : AreExact answer t items
  pub top : AreTop t items
  pub fixed : AreFixed t items
