-- What every machine holds, whatever its algorithm.
use Rattle.std.specs.Prelude.{◌≡◌, ◌≢◌, ◌<◌, ◌≤◌, ◌⊎◌, ◌+◌, ◌*◌, ℕ, Bool, true, false, List, length, AllPairs, Contains}
use Rattle.ranked_list.specs.declared.need.Need.{Need}
use Rattle.ranked_list.specs.declared.need.Need.TheVariants.{Done}
use Rattle.ranked_list.specs.Table.{objects}
use Rattle.monotone_fn.specs.Tree.{Tree}
use Rattle.topk_theory.specs.declared.access.Access.{Access}
use Rattle.topk_theory.specs.declared.access.Access.TheVariants.{Sorted, Random}
use Rattle.topk_theory.specs.Transcript.{random_rows, seen_objects, named_objects}
use Rattle.topk_theory.specs.Consistent.{Kind, IsOfKind, SomeAgrees}
use Rattle.machine_base.specs.Machine.{MachineState, IsPosed, IsOneMore, HasRoomFor}
use Rattle.machine_base.specs.declared.core_fault.CoreFault.{CoreFault}
use Rattle.machine_base.specs.declared.core_fault.CoreFault.TheVariants.{Strangers, RoomFull}
use Rattle.machine_base.specs.declared.base.Base.{Base}
use Rattle.topk_base.specs.declared.TheConstants.{MAX_LISTS, MAX_OBJECTS}

-- what contracts see of a machine that holds this and needs that
abbrev pub shown : Base → Need → MachineState
shown base need = record { expr = base.expr; k = base.k; room = base.room; costs = base.costs; log = base.transcript; need = need }

-- the objects of a list whose grade random accesses of A gave
abbrev pub asked_of_list : ℕ → List Access → List ℕ
asked_of_list list A = objects (random_rows list A)

-- what is held over m lists of n objects after the accesses A: the query fits the lists, which are few; each object that A names
-- was seen, and no more were than there is room for; no random access came twice; some table agrees with A
pub record IsHeld (e : Tree) (k room m n : ℕ) (A : List Access) : Type 0 where
  pub posed : IsPosed e k room m n
  pub some_list : 1 ≤ m
  pub few_lists : m ≤ MAX_LISTS
  pub counted : n ≤ MAX_OBJECTS
  pub named_seen : (object : ℕ) → Contains (named_objects A) object → Contains (seen_objects A) object
  pub roomy : length (seen_objects A) ≤ room
  pub asked_once : (list : ℕ) → AllPairs (λ (one other : ℕ). one ≢ other) (asked_of_list list A)
  pub agreeing : SomeAgrees m n A

abbrev pub Holds : Base → Type 0
Holds base = IsHeld base.expr base.k base.room base.transcript.lists base.transcript.count base.transcript.accesses

-- one access was told, and all else is as it was
pub record IsTold (access : Access) (before after : Base) : Type 0 where
  pub expr : after.expr ≡ before.expr
  pub k : after.k ≡ before.k
  pub room : after.room ≡ before.room
  pub costs : after.costs ≡ before.costs
  pub log : IsOneMore access before.transcript after.transcript

-- the access may follow A where so many objects may be seen: a row's object was seen or there is room for it;
-- a random access names an object that was seen, and comes for the first time
abbrev pub MayFollow : ℕ → List Access → Access → Type 0
MayFollow room A (Sorted list object grade) = Contains (seen_objects A) object ⊎ (length (seen_objects A) < room)
MayFollow room A (Random list object grade) = Contains (seen_objects A) object × (¬ Contains (asked_of_list list A) object)

-- room is reserved in the transcript for as many objects as may be seen, and for a sorted and a random access of each list for each of them
pub record IsReserved (base : Base) : Type 0 where
  pub objects : base.room ≤ length (named_objects base.transcript.accesses) + base.transcript.spare_objects
  pub accesses : 2 * (base.transcript.lists * base.room) ≤ length base.transcript.accesses + base.transcript.spare_accesses

-- the access can be told: it may follow the others, and is of no kind of inconsistency
pub record CanTake (base : Base) (access : Access) : Type 0 where
  pub follows : MayFollow base.room base.transcript.accesses access
  pub consistent : (kind : Kind) → ¬ IsOfKind base.transcript.lists base.transcript.count base.transcript.accesses access kind

-- the object is new exactly where no sorted access gave it
pub record TellsNew (A : List Access) (object : ℕ) (is_new : Bool) : Type 0 where
  pub unseen : is_new ≡ true → ¬ Contains (seen_objects A) object
  pub seen : is_new ≡ false → Contains (seen_objects A) object

-- the object is new and has no room: it is a stranger where the room is the count, and else the room is full
abbrev pub HasNoRoom : ℕ → Base → CoreFault → Type 0
HasNoRoom object base (Strangers other count) =
    (¬ HasRoomFor (shown base Done) object) × (base.room ≡ base.transcript.count) × (other ≡ object) × (count ≡ base.transcript.count)
HasNoRoom object base (RoomFull room) = (¬ HasRoomFor (shown base Done) object) × (base.room < base.transcript.count) × (room ≡ base.room)
