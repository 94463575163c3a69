-- A machine that is fed from what is told of lists.
use Rattle.std.specs.Prelude.{◌≡◌, ◌≤◌, ◌<◌, ◌+◌, ℕ, List, length, Result, Ok, Err}
use Rattle.ranked_list.specs.declared.row.Row.{Row}
use Rattle.ranked_list.specs.declared.need.Need.TheVariants.{Done}
use Rattle.topk_theory.specs.Transcript.{Told, whole, IsDrawn, seen_objects}
use Rattle.topk_theory.specs.Threshold.{IsAsked}
use Rattle.access_log.specs.Log.{AgreesWith}
use Rattle.machine_base.specs.declared.answer.Answer.{Answer}
use Rattle.machine_base.specs.Machine.{MachineState, asked_of, IsSameLog, MakesRun}
use Rattle.query_core.specs.declared.drive_fault.DriveFault.{DriveFault}
use Rattle.query_core.specs.declared.drive_fault.DriveFault.TheVariants.{RoomFull, Memory}
use Rattle.query_core.specs.declared.machine.Machine.{Machine}
use Rattle.query_core.specs.declared.ready.Ready.{Ready}
use Rattle.query_core.specs.Methods.{Method, run_with, AnswersWith}
use Rattle.query_core.specs.Ready.{method_of_ready}
use Rattle.query_core.specs.OneAnswer.{IsOverRoomWith, IsAnsweredWith}
use Rattle.query_core.specs.Machines.{method_of, state_of, MakesItsRun}

-- the objects that a machine's run by a method sees on a table
abbrev pub sees_with : Method → List (List Row) → MachineState → List ℕ
sees_with method D t = seen_objects (run_with method (asked_of t) D)

-- the machine is the first one some accesses on: what never changes is as it was
pub record Continues (first now : MachineState) : Type 0 where
  pub expr : now.expr ≡ first.expr
  pub k : now.k ≡ first.k
  pub room : now.room ≡ first.room
  pub costs : now.costs ≡ first.costs
  pub lists : now.log.lists ≡ first.log.lists
  pub count : now.log.count ≡ first.log.count

-- the accesses of a machine are drawn from what is told, and the objects that they saw have room
pub record IsFedFrom (T : Told) (t : MachineState) : Type 0 where
  pub drawn : IsDrawn t.log.lists T t.log.accesses
  pub roomy : length (seen_objects t.log.accesses) ≤ t.room

-- the machine took one more access, from what is told
pub record TookOne (T : Told) (before after : MachineState) : Type 0 where
  pub goes : Continues before after
  pub fed : IsFedFrom T after
  pub one_more : length after.log.accesses ≡ length before.log.accesses + 1

-- the answer of a machine that came from a first one to the end of its run, fed from what is told: no table is spoken of
pub record IsEndWith (method : Method) (T : Told) (first : MachineState) (answer : Answer) : Type 0 where
  pub last : MachineState
  pub goes : Continues first last
  pub fed : IsFedFrom T last
  pub run : MakesRun (run_with method) last
  pub done : last.need ≡ Done
  pub items : AnswersWith method last answer.items
  pub log : IsSameLog answer.transcript last.log

-- a machine can be driven over lists that are told whole: they are a table that is asked, and agree with its accesses so far
pub record CanDrive (D : List (List Row)) (t : MachineState) : Type 0 where
  pub asked : IsAsked t.k t.log.count D
  pub agrees : AgreesWith D t.log
  pub roomy : length (seen_objects t.log.accesses) ≤ t.room

-- the machine runs by the same method and took one more access of the lists, which its run has there
pub record Steps (D : List (List Row)) (before after : Machine) : Type 0 where
  pub method : method_of after ≡ method_of before
  pub took : TookOne (whole D) (state_of before) (state_of after)
  pub within : length (state_of before).log.accesses < length (run_with (method_of before) (asked_of (state_of before)) D)

-- the machine is the first one some accesses of the lists on, and needs nothing more
pub record IsDriven (D : List (List Row)) (first last : Machine) : Type 0 where
  pub method : method_of last ≡ method_of first
  pub goes : Continues (state_of first) (state_of last)
  pub can : CanDrive D (state_of last)
  pub done : (state_of last).need ≡ Done

-- what a machine that needs nothing more answers
abbrev pub Finishes : Machine → Result Answer DriveFault → Type 0
Finishes machine (Ok answer) =
    MakesItsRun machine × AnswersWith (method_of machine) (state_of machine) answer.items
    × IsSameLog answer.transcript (state_of machine).log
Finishes machine (Err fault) = fault ≡ Memory

-- why a machine has no answer over a table: its room is less than the count and less than the number of objects that its run sees, or memory was refused
abbrev pub StopsWith : Method → List (List Row) → MachineState → DriveFault → Type 0
StopsWith method D t (RoomFull room) = (room ≡ t.room) × (room < t.log.count) × (room < length (sees_with method D t))
StopsWith method D t Memory = Unit {0}

-- what comes of driving a machine by a method over a table
abbrev pub DrivesWith : Method → List (List Row) → MachineState → Result Answer DriveFault → Type 0
DrivesWith method D t (Ok answer) = IsEndWith method (whole D) t answer
DrivesWith method D t (Err fault) = StopsWith method D t fault

-- a query is answered over its lists D by a method: the answer is right, D agrees with its transcript, and its room wasn't passed
pub record AnswersOverWith (method : Method) (ready : Ready) (D : List (List Row)) (answer : Answer) : Type 0 where
  pub answered : IsAnsweredWith method ready.query ready.count answer
  pub agrees : AgreesWith D answer.transcript
  pub roomy : (room : ℕ) → ¬ IsOverRoomWith method ready.query ready.count D room

abbrev pub AnswersOver : Ready → List (List Row) → Answer → Type 0
AnswersOver ready D answer = AnswersOverWith (method_of_ready ready) ready D answer

-- what comes of running a query over its lists D by a method: it is answered, or refused for its room, or memory was refused
abbrev pub RunsOverWith : Method → Ready → List (List Row) → Result Answer DriveFault → Type 0
RunsOverWith method ready D (Ok answer) = AnswersOverWith method ready D answer
RunsOverWith method ready D (Err (RoomFull room)) = IsOverRoomWith method ready.query ready.count D room
RunsOverWith method ready D (Err Memory) = Unit {0}

abbrev pub RunsOver : Ready → List (List Row) → Result Answer DriveFault → Type 0
RunsOver ready D result = RunsOverWith (method_of_ready ready) ready D result
