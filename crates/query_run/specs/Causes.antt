-- Why a query is refused, by the need at which it stopped and the state of the source of its list, as they stand from then on.
use Rattle.std.specs.Prelude.{◌≡◌, ◌<◌, ◌-◌, ℕ, Option, Some, None, List, length, slice_get, Contains}
use Rattle.ranked_list.specs.declared.row.Row.{Row}
use Rattle.ranked_list.specs.declared.need.Need.{Need}
use Rattle.ranked_list.specs.declared.need.Need.TheVariants.{Row as RowAt, Grade, Done}
use Rattle.turn_lock.specs.declared.facts.Tally.{Tally}
use Rattle.machine_base.specs.Machine.{MachineState, HasRoomFor}
use Rattle.machine_base.specs.declared.core_fault.CoreFault.{CoreFault}
use Rattle.machine_base.specs.declared.core_fault.CoreFault.TheVariants.{Strangers, RoomFull}
use Rattle.source_api.specs.declared.source.FailKind.{FailKind}
use Rattle.source_api.specs.declared.source.FailKind.TheVariants as kind
use Rattle.source_state.specs.declared.entry.SourceFault.{SourceFault}
use Rattle.source_state.specs.declared.entry.Settling.TheVariants.{Bad, Missed}
use Rattle.source_state.specs.declared.look.LookFault.{LookFault}
use Rattle.source_state.specs.declared.look.LookFault.TheVariants as why
use Rattle.source_state.specs.Log.{rows_in, settling_in, fault_in}
use Rattle.source_state.specs.State.{State, state_at}
use Rattle.query_core.specs.Machines.{state_of}
use Rattle.query_run.specs.declared.ended.Refusal.{Refusal}
use Rattle.query_run.specs.declared.ended.Refusal.TheVariants.{Core, Look}
use Rattle.query_run.specs.declared.running_query.RunningQuery.{RunningQuery}
use Rattle.query_run.specs.Inquiries.{source_needed}

-- the row that is needed is kept, and the machine has no room for its object
abbrev pub RowLacksRoom : State → MachineState → Need → ℕ → Type 0
RowLacksRoom s t (RowAt list depth) object = (row : Row) × (slice_get (rows_in s.log) (depth - 1) ≡ Some row) × (row.object ≡ object) × (¬ HasRoomFor t object)
RowLacksRoom _ _ _ _ = ⊥

-- the machine's room is the count, and the row has one object more; or it is less, and is full
abbrev pub LacksRoom : State → MachineState → CoreFault → Type 0
LacksRoom s t (Strangers object count) = RowLacksRoom s t t.need object × (t.room ≡ t.log.count) × (count ≡ t.log.count)
LacksRoom s t (RoomFull room) = ((object : ℕ) × RowLacksRoom s t t.need object) × (t.room < t.log.count) × (room ≡ t.room)

-- the source's fault is that of the needed row, which isn't kept, or of the needed grade, which settled so
abbrev pub IsAtFault : State → Need → SourceFault → Type 0
IsAtFault s (RowAt list depth) fault = (slice_get (rows_in s.log) (depth - 1) ≡ None) × (fault_in s.log ≡ Some fault)
IsAtFault s (Grade list object) fault = settling_in s.log object ≡ Some (Bad fault)
IsAtFault s Done fault = ⊥

-- the source hasn't the needed object
abbrev pub IsMissed : State → Need → ℕ → Type 0
IsMissed s (Grade list named) object = (named ≡ object) × (settling_in s.log object ≡ Some Missed)
IsMissed _ _ _ = ⊥

-- as many objects were asked as there are, and the needed one isn't among them
pub record IsUnasked (s : State) (object kept : ℕ) : Type 0 where
  pub full : length s.asks ≡ s.count
  pub all : kept ≡ s.count
  pub absent : ¬ Contains s.asks object

-- the need is a grade, and the source can't be asked for its object any more
abbrev pub AreAsksFull : State → Need → ℕ → Type 0
AreAsksFull s (Grade list object) kept = IsUnasked s object kept
AreAsksFull _ _ _ = ⊥

-- more fails of a kind came than were noted when the waiting began
abbrev pub HasFailed : FailKind → Tally → Tally → Type 0
HasFailed kind.Failed noted now = noted.failed < now.failed
HasFailed kind.Garbled noted now = noted.garbled < now.garbled
HasFailed kind.Memory noted now = noted.memory < now.memory

-- why a need can't be met
abbrev pub CanNotBeHad : State → Need → Tally → LookFault → Type 0
CanNotBeHad s need noted (why.Source fault) = IsAtFault s need fault
CanNotBeHad s need noted (why.Missing object) = IsMissed s need object
CanNotBeHad s need noted (why.AsksFull kept) = AreAsksFull s need kept
CanNotBeHad s need noted (why.Call what) = HasFailed what noted s.tally

-- the need is an access of this list
abbrev pub IsOfList : ℕ → Need → Type 0
IsOfList list (RowAt other depth) = other ≡ list
IsOfList list (Grade other object) = other ≡ list
IsOfList list Done = ⊥

-- the cause of a refusal: no room for the object of the needed row, or the need of this list can't be met
abbrev pub IsCause : State → MachineState → Tally → Option Refusal → Type 0
IsCause s t noted None = Unit {0}
IsCause s t noted (Some (Core fault)) = LacksRoom s t fault
IsCause s t noted (Some (Look list fault)) = IsOfList list t.need × CanNotBeHad s t.need noted fault

abbrev pub IsRefusedForCause : List State → RunningQuery → Type 0
IsRefusedForCause states q = IsCause (state_at states (source_needed q)) (state_of q.machine) q.waiting.noted q.refusal
