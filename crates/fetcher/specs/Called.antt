-- The calls that a run makes of a source: which ones follow one another, and that the log is what they gave.
use Rattle.std.specs.Prelude.{◌≡◌, ◌≤◌, ◌-◌, ℕ, min, Bool, true, false, Option, Some, None, IfSome, List, [], ◌∷◌, ◌++◌, length, filter, filter_map, Contains}
use Rattle.std.specs.List.{flat_map}
use Rattle.std.specs.declared.result.Result.{Result}
use Rattle.std.specs.declared.result.Result.TheVariants.{Ok, Err}
use Rattle.ranked_list.specs.declared.row.Row.{Row}
use Rattle.topk_theory.specs.Transcript.{Begins}
use Rattle.source_api.specs.declared.source.Trouble.{Trouble}
use Rattle.source_api.specs.declared.source.Trouble.TheVariants as trouble
use Rattle.source_api.specs.Calls.{Call}
use Rattle.source_state.specs.declared.entry.LogEntry.{LogEntry}
use Rattle.source_state.specs.declared.entry.LogEntry.TheVariants.{Settled}
use Rattle.source_state.specs.declared.entry.Settling.{Settling}
use Rattle.source_state.specs.declared.entry.Settling.TheVariants.{Graded, Bad}
use Rattle.source_state.specs.declared.entry.SourceFault.{SourceFault}
use Rattle.source_state.specs.declared.entry.SourceFault.TheVariants.{Clash, Above, ShortList, Moved}
use Rattle.source_state.specs.Log.{rows_in, faults_in}
use Rattle.source_state.specs.State.{State}
use Rattle.source_state.specs.Looking.{reach_of}
use Rattle.fetcher.specs.Causes.{ComesOf}

-- the rows that a call gave; those that calls gave, in their order
abbrev pub rows_by : Call → List Row
rows_by (Call.Page from count (Ok rows)) = rows
rows_by _ = []

abbrev pub rows_given : List Call → List Row
rows_given calls = flat_map rows_by calls

-- the fault that the answer for a page shows of a list of so many rows, if no row was given: the list is short or was replaced; those that calls show
abbrev pub page_fault : ℕ → Call → Option SourceFault
page_fault size (Call.Page from count (Ok [])) = Some (ShortList size from)
page_fault size (Call.Page from count (Err (trouble.Moved had now))) = Some (Moved had now)
page_fault size _ = None

abbrev pub page_faults : ℕ → List Call → List SourceFault
page_faults size calls = filter_map (page_fault size) calls

-- whether a row fault is that of a page without rows
abbrev pub is_of_page : SourceFault → Bool
is_of_page (ShortList stated got) = true
is_of_page (Moved had now) = true
is_of_page _ = false

-- whether a call settles an object: the call for its grade was answered, or the list was replaced
abbrev pub settles : Call → Bool
settles (Call.Grade object (Ok grade)) = true
settles (Call.Grade object (Err (trouble.Moved had now))) = true
settles _ = false

-- the answer that settles an object so: a grade, good or at fault, that the list was replaced, or that it hasn't the object
abbrev pub answer_of : Settling → Result (Option ℕ) Trouble
answer_of (Graded grade) = Ok (Some grade)
answer_of (Bad (Clash object sorted random)) = Ok (Some random)
answer_of (Bad (Above object grade bottom)) = Ok (Some grade)
answer_of (Bad (Moved had now)) = Err (trouble.Moved had now)
answer_of _ = Ok None

-- the call that settled the object of an entry; those that settled the objects of a log, in their order
abbrev pub grade_call : LogEntry → Option Call
grade_call (Settled object settling) = Some (Call.Grade object (answer_of settling))
grade_call _ = None

abbrev pub grade_calls : List LogEntry → List Call
grade_calls log = filter_map grade_call log

-- a page is called for behind these calls: it goes on where the rows that they gave end, the log keeps all of these, and no page before it was without
-- rows; it asks for as many rows as a page has, or for those up to the reach of a depth that was wanted
pub record PageFollows (page ahead : ℕ) (s : State) (before : List Call) (from count : ℕ) : Type 0 where
  pub next : from ≡ length (rows_given before)
  pub kept : Begins (rows_given before) (rows_in s.log)
  pub goes_on : page_faults s.count before ≡ []
  pub some : 1 ≤ count
  pub want : ℕ
  pub wanted : want ≤ s.want
  pub size : count ≡ min page (reach_of want page ahead s.count - from)

-- the grade of an object is called for behind these calls: it was asked for, and none of them settled it
pub record GradeFollows (s : State) (before : List Call) (object : ℕ) : Type 0 where
  pub asked : Contains s.asks object
  pub unsettled : (answer : Result (Option ℕ) Trouble) → Contains before (Call.Grade object answer) → settles (Call.Grade object answer) ≡ false

-- a call may follow these; the size isn't called for
abbrev pub MayFollow : ℕ → ℕ → State → List Call → Call → Type 0
MayFollow page ahead s before (Call.Size answer) = ⊥
MayFollow page ahead s before (Call.Page from count answer) = PageFollows page ahead s before from count
MayFollow page ahead s before (Call.Grade object answer) = GradeFollows s before object

-- a run that cuts pages so made these calls of a source, which closed in this state. Each may follow those before it, and the log is what they gave: the
-- rows, up to the first at fault; the row fault of a page without rows; and each object as the answer for its grade settles it
pub record AreCallsOf (page ahead : ℕ) (calls : List Call) (s : State) : Type 0 where
  pub each : (before after : List Call) (call : Call) → calls ≡ before ++ call ∷ after → MayFollow page ahead s before call
  pub comes : ComesOf s.count (rows_given calls) s.log
  pub ended : filter is_of_page (faults_in s.log) ≡ page_faults s.count calls
  pub settled : grade_calls s.log ≡ filter settles calls

-- behind the calls that were made of a source before, a run made such calls
pub record MadeCalls (page ahead : ℕ) (made : List Call) (now : Option (List Call)) (s : State) : Type 0 where
  pub calls : List Call
  pub all : now ≡ Some (made ++ calls)
  pub are : AreCallsOf page ahead calls s

-- where a source tells its calls, a run made such calls of it
abbrev pub WasCalled : ℕ → ℕ → Option (List Call) → Option (List Call) → State → Type 0
WasCalled page ahead before now s = IfSome before (λ made. MadeCalls page ahead made now s)
