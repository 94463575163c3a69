-- What a turn of a query does.
use Rattle.std.specs.Prelude.{◌≡◌, Option, Some, None, List, Ok, Err}
use Rattle.std.specs.List.{slice_set}
use Rattle.ranked_list.specs.declared.row.Row.{Row}
use Rattle.machine_base.specs.Machine.{MachineState, MayBeNextRow, MayBeNextGrade, RowFed, Takes, grade_access}
use Rattle.source_state.specs.declared.look.Look.{Look}
use Rattle.source_state.specs.declared.look.Look.TheVariants as look
use Rattle.source_state.specs.State.{State, state_at}
use Rattle.source_state.specs.Looking.{Looks}
use Rattle.query_core.specs.Machines.{method_of, state_of, MakesItsRun}
use Rattle.query_run.specs.declared.ended.Refusal.{Refusal}
use Rattle.query_run.specs.declared.ended.Refusal.TheVariants as refusal
use Rattle.query_run.specs.declared.running_query.RunningQuery.{RunningQuery}
use Rattle.query_run.specs.Inquiries.{needed, list_needed, source_needed}

-- a machine may be fed with the answer of a look: the row or the grade goes with its transcript
abbrev pub MayFeed : MachineState → Look → Type 0
MayFeed t (look.Row row) = MayBeNextRow t.log t.need row
MayFeed t (look.Grade grade) = MayBeNextGrade t.log t.need grade
MayFeed t look.NotYet = Unit {0}
MayFeed t (look.Fault fault) = Unit {0}

-- what a row does: the machine takes it, or has no room for its object
abbrev pub RowTaken : Row → RunningQuery → RunningQuery → Option Refusal → Type 0
RowTaken row before after None = RowFed row (state_of before.machine) (state_of after.machine) {A = Unit {0}} (Ok tt)
RowTaken row before after (Some (refusal.Core fault)) = RowFed row (state_of before.machine) (state_of after.machine) {A = Unit {0}} (Err fault)
RowTaken row before after (Some (refusal.Look list fault)) = ⊥

-- what a query makes of the answer of a look: its machine is fed with what is there, a fault refuses the query, else it stays
abbrev pub Answers : RunningQuery → RunningQuery → Look → Type 0
Answers before after (look.Row row) = RowTaken row before after after.refusal
Answers before after (look.Grade grade) = (after.refusal ≡ None) × Takes (grade_access (needed before) grade) (state_of before.machine) (state_of after.machine)
Answers before after look.NotYet = (after.refusal ≡ None) × (after.machine ≡ before.machine)
Answers before after (look.Fault fault) = (after.refusal ≡ Some (refusal.Look (list_needed (needed before)) fault)) × (after.machine ≡ before.machine)

-- a turn of a query: one look at the source of what it needs, and what it makes of the answer
pub record Turns (states after : List State) (q r : RunningQuery) : Type 0 where
  pub answer : Look
  pub state : State
  pub looks : Looks (needed q) (state_at states (source_needed q)) state q.waiting r.waiting answer
  pub others : after ≡ slice_set states (source_needed q) state
  pub sources : r.sources.items ≡ q.sources.items
  pub same : method_of r.machine ≡ method_of q.machine
  pub run : MakesItsRun r.machine
  pub answers : Answers q r answer
