-- What comes of sources that tell the truth of lists which form a table for the query.
use Rattle.std.specs.Prelude.{◌≡◌, ◌<◌, ◌≤◌, ◌++◌, ℕ, Option, Some, None, List, All, length, map, Contains}
use Rattle.ranked_list.specs.declared.row.Row.{Row}
use Rattle.ranked_list.specs.Table.{IsTable, objects}
use Rattle.topk_theory.specs.Transcript.{Begins, list_at}
use Rattle.access_log.specs.Log.{AgreesWith}
use Rattle.machine_base.specs.Machine.{asked_of}
use Rattle.machine_base.specs.declared.core_fault.CoreFault.TheVariants.{RoomFull}
use Rattle.source_state.specs.declared.entry.Settling.{Settling}
use Rattle.source_state.specs.declared.entry.Settling.TheVariants.{Graded}
use Rattle.source_state.specs.declared.look.LookFault.TheVariants as why
use Rattle.source_state.specs.Log.{rows_in, settling_in, fault_in}
use Rattle.source_state.specs.State.{State, state_at}
use Rattle.query_core.specs.Methods.{run_with}
use Rattle.query_core.specs.Driving.{sees_with}
use Rattle.query_core.specs.Machines.{method_of, state_of}
use Rattle.query_run.specs.declared.ended.Refusal.{Refusal}
use Rattle.query_run.specs.declared.ended.Refusal.TheVariants.{Core, Look}
use Rattle.query_run.specs.declared.running_query.RunningQuery.{RunningQuery}

-- a page is the next rows of a list, one at least
pub record IsNextOf (list : List Row) (kept rows : List Row) : Type 0 where
  pub some : 1 ≤ length rows
  pub next : Begins (kept ++ rows) list

-- the lists of a query
abbrev pub lists_of : List (List Row) → RunningQuery → List (List Row)
lists_of lists q = map (list_at lists) q.sources.items

-- the lists of a query form a table of as many objects as it counts
abbrev pub HasTable : List (List Row) → RunningQuery → Type 0
HasTable lists q = IsTable (state_of q.machine).log.count (lists_of lists q)

-- what is settled of an object is a grade of the list
abbrev pub IsGradeOf : List Row → ℕ → Settling → Type 0
IsGradeOf list object settling = (grade : ℕ) × (settling ≡ Graded grade) × Contains list (record { object = object; grade = grade })

-- a state tells the truth of a list: its rows are how the list begins and have no fault, what is settled is the list's, and its objects alone were asked
pub record IsTrueOf (list : List Row) (s : State) : Type 0 where
  pub rows : Begins (rows_in s.log) list
  pub faultless : fault_in s.log ≡ None
  pub settled : (object : ℕ) (settling : Settling) → settling_in s.log object ≡ Some settling → IsGradeOf list object settling
  pub asked : (object : ℕ) → Contains s.asks object → Contains (objects list) object

-- each query's lists form a table, and the states of its sources tell the truth of them
pub record IsTrueFor (lists : List (List Row)) (states : List State) (q : RunningQuery) : Type 0 where
  pub table : HasTable lists q
  pub each : All (λ source. IsTrueOf (list_at lists source) (state_at states source)) q.sources.items

-- why a query over its own table may be refused: its room is less than the count and than the objects that its run sees, or a call failed
abbrev pub MayRefuse : List (List Row) → RunningQuery → Option Refusal → Type 0
MayRefuse D q None = Unit {0}
MayRefuse D q (Some (Core (RoomFull room))) =
    (room < (state_of q.machine).log.count) × (room < length (sees_with (method_of q.machine) D (state_of q.machine)))
MayRefuse D q (Some (Look list (why.Call what))) = Unit {0}
MayRefuse _ _ _ = ⊥

-- the lists of a query agree with its transcript, which is how its run on its own table begins, and it is refused for its room or for a
-- fail alone
pub record IsOnItsRun (lists : List (List Row)) (q : RunningQuery) : Type 0 where
  pub agrees : AgreesWith (lists_of lists q) (state_of q.machine).log
  pub begins : Begins (state_of q.machine).log.accesses (run_with (method_of q.machine) (asked_of (state_of q.machine)) (lists_of lists q))
  pub refused : MayRefuse (lists_of lists q) q q.refusal
