-- What queries used of a source, and what the source gave for it.
use Rattle.std.specs.Prelude.{◌≡◌, ◌≢◌, ◌≤◌, ◌==◌, ◌&&◌, ◌+◌, ◌*◌, ◌⊎◌, ℕ, Bool, true, false, Option, Some, None, List, ◌∷◌, length, Contains, count_by}
use Rattle.std.specs.List.{AllZip}
use Rattle.ranked_list.specs.declared.row.Row.{Row}
use Rattle.access_log.specs.Log.{AgreesWith}
use Rattle.query_core.specs.Machines.{state_of}
use Rattle.tk_io.specs.Faults.{Rose}
use Rattle.source_api.specs.declared.counts.Counts.{Counts}
use Rattle.source_api.specs.declared.source.FailKind.{FailKind}
use Rattle.source_api.specs.declared.source.FailKind.TheVariants as kind
use Rattle.source_state.specs.declared.look.LookFault.{LookFault}
use Rattle.source_state.specs.declared.look.LookFault.TheVariants as why
use Rattle.source_state.specs.Log.{settled_in}
use Rattle.source_state.specs.State.{State}
use Rattle.source_state.specs.Looking.{reach_of}
use Rattle.query_run.specs.declared.ended.Refusal.{Refusal}
use Rattle.query_run.specs.declared.ended.Refusal.TheVariants.{Core, Look}
use Rattle.query_run.specs.declared.running_query.RunningQuery.{RunningQuery}
use Rattle.query_run.specs.Inquiries.{source_of}
use Rattle.query_run.specs.Asking.{IsAskedFor, AsksGradeOf, grades_on}
use Rattle.fetcher.specs.Causes.{HasGiven}
use Rattle.fetcher.specs.Moving.{TellsMove}
use Rattle.fetcher.specs.Metering.{WentUp, RoseBy}
use Rattle.topk_base.specs.declared.settings.Settings.{Settings}
use Rattle.batch_result.specs.declared.batch.Use.{Use}

-- a look's fault is that a call failed so
abbrev pub is_fail : FailKind → LookFault → Bool
is_fail kind.Failed (why.Call kind.Failed) = true
is_fail kind.Garbled (why.Call kind.Garbled) = true
is_fail kind.Memory (why.Call kind.Memory) = true
is_fail kind.Failed (why.Source fault) = false
is_fail kind.Failed (why.Missing object) = false
is_fail kind.Failed (why.AsksFull kept) = false
is_fail kind.Failed (why.Call kind.Garbled) = false
is_fail kind.Failed (why.Call kind.Memory) = false
is_fail kind.Garbled (why.Source fault) = false
is_fail kind.Garbled (why.Missing object) = false
is_fail kind.Garbled (why.AsksFull kept) = false
is_fail kind.Garbled (why.Call kind.Failed) = false
is_fail kind.Garbled (why.Call kind.Memory) = false
is_fail kind.Memory (why.Source fault) = false
is_fail kind.Memory (why.Missing object) = false
is_fail kind.Memory (why.AsksFull kept) = false
is_fail kind.Memory (why.Call kind.Failed) = false
is_fail kind.Memory (why.Call kind.Garbled) = false

-- a query is refused because a call of this source failed so
abbrev pub refuses_for : FailKind → ℕ → RunningQuery → Option Refusal → Bool
refuses_for what source q None = false
refuses_for what source q (Some (Core fault)) = false
refuses_for what source q (Some (Look list fault)) = is_fail what fault && source_of q list == source

abbrev pub is_refused_for : FailKind → ℕ → RunningQuery → Bool
is_refused_for what source q = refuses_for what source q q.refusal

-- a depth is none, or so many rows of a list of this source are certain for one of these queries
abbrev pub IsWantedBy : List RunningQuery → ℕ → ℕ → Type 0
IsWantedBy queries source depth = (depth ≡ 0) ⊎ ((q : RunningQuery) × Contains queries q × IsAskedFor q source depth)

-- the grade of an object in a list of this source is certain for one of these queries
abbrev pub IsNamedBy : List RunningQuery → ℕ → ℕ → Type 0
IsNamedBy queries source object = (q : RunningQuery) × Contains queries q × AsksGradeOf q source object

-- a table agrees with what a query read; how many grades the runs of queries on tables ask a source for
abbrev pub AgreesWithRead : RunningQuery → List (List Row) → Type 0
AgreesWithRead q D = AgreesWith D (state_of q.machine).log

abbrev pub all_grades_on : List RunningQuery → List (List (List Row)) → ℕ → ℕ
all_grades_on (q ∷ queries) (D ∷ tables) source = grades_on q source D + all_grades_on queries tables source
all_grades_on _ _ source = 0

-- what was used of a source, between what it had counted before and what it counts now. Its closing state has what the queries wanted of
-- it, which is certain for one of them: whatever tables agree with what they read, the run of one of them reads so deep; and no more grades than the runs
-- on such tables ask for, each of an object whose grade is certain for one of them; the rows that it gave
-- are within the reach of the greatest depth that was wanted, whatever the number of the queries; and a grade was given for each object once at most,
-- and settled it; and what the log has of rows and of faults came of so many rows
pub record IsUsed (settings : Settings) (queries : List RunningQuery) (source : ℕ) (s : State) (before now : Counts) (used : Use) : Type 0 where
  pub want : used.want ≡ s.want
  pub wanted : IsWantedBy queries source used.want
  pub asks : used.asks ≡ length s.asks
  pub asked : (tables : List (List (List Row))) → AllZip AgreesWithRead queries tables → used.asks ≤ all_grades_on queries tables source
  pub named : (object : ℕ) → Contains s.asks object → IsNamedBy queries source object
  pub rows : WentUp used.rows before.rows_given now.rows_given
  pub reach : used.rows ≤ reach_of used.want settings.page settings.ahead s.count
  pub grades : WentUp used.grades before.grades_given now.grades_given
  pub once : used.grades ≤ used.asks
  pub settled : used.grades ≤ length (settled_in s.log)
  pub comes : HasGiven used.rows s.count s.log

-- so many lines, no more than the workers times some number of calls, by which the count rose, or it stands at its last value
pub record IsFewFor (workers lines calls : ℕ) (before now : ℕ) : Type 0 where
  pub rose : RoseBy calls before now
  pub few : lines ≤ workers * calls

-- a list was replaced: it was at this version, a reply stated another one, and that is counted
pub record IsReplaced (version : ℕ) (before now : Counts) (had other : ℕ) : Type 0 where
  pub at_hand : had ≡ version
  pub differ : had ≢ other
  pub counted : Rose before.moves now.moves

-- the fails that refused queries, of either kind: the calls of the source that failed so, by its closing state, are counted, and the queries that
-- are refused for one are no more than the workers times these calls; and by its closing log its list was replaced only where it was at this version and that is counted
pub record HasCounted (workers : ℕ) (queries : List RunningQuery) (source : ℕ) (s : State) (version : ℕ) (before now : Counts) : Type 0 where
  pub failed : IsFewFor workers (count_by (is_refused_for kind.Failed source) queries) s.tally.failed before.faults now.faults
  pub garbled : IsFewFor workers (count_by (is_refused_for kind.Garbled source) queries) s.tally.garbled before.garbles now.garbles
  pub moved : (had other : ℕ) → TellsMove s.log had other → IsReplaced version before now had other
