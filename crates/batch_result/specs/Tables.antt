-- What comes of a batch whose sources tell tables.
use Rattle.std.specs.Prelude.{◌≡◌, ◌≢◌, ◌<◌, ℕ, Some, List, All, length, map}
use Rattle.tk_io.specs.Faults.{Rose}
use Rattle.ranked_list.specs.declared.row.Row.{Row}
use Rattle.ranked_list.specs.Table.{IsTable}
use Rattle.topk_theory.specs.Transcript.{list_at}
use Rattle.machine_base.specs.declared.core_fault.CoreFault.TheVariants.{RoomFull}
use Rattle.source_api.specs.declared.counts.Counts.{Counts}
use Rattle.source_state.specs.declared.entry.SourceFault.TheVariants.{Moved}
use Rattle.source_state.specs.declared.look.LookFault.{LookFault}
use Rattle.source_api.specs.declared.source.FailKind.TheVariants as kind
use Rattle.source_state.specs.declared.look.LookFault.TheVariants as why
use Rattle.query_core.specs.declared.ready.Ready.{Ready}
use Rattle.query_core.specs.Driving.{AnswersOver}
use Rattle.query_core.specs.Ready.{method_of_ready}
use Rattle.query_core.specs.OneAnswer.{IsOverRoomWith}
use Rattle.query_run.specs.declared.ended.Ended.{Ended}
use Rattle.query_run.specs.declared.ended.Ended.TheVariants as ended
use Rattle.batch_result.specs.Numbered.{counts_at}
use Rattle.batch_result.specs.Batches.{BatchRun}

-- the lists of a ready query, by the numbers of their sources
abbrev pub lists_for : List (List Row) → Ready → List (List Row)
lists_for lists ready = map (list_at lists) ready.sources.items

-- by its counts no call of a source failed, and none was answered by garbled data or of another version of its list
pub record NoneFailed (before now : Counts) : Type 0 where
  pub faults : ¬ Rose before.faults now.faults
  pub garbles : ¬ Rose before.garbles now.garbles
  pub moves : ¬ Rose before.moves now.moves

-- by their counts no list of a source was replaced in the run
abbrev pub NoneMoved : BatchRun → Type 0
NoneMoved run = (source : ℕ) → source < length run.sizes → ¬ Rose (counts_at run.before source).moves (counts_at run.now source).moves

-- the sources of a run tell these lists, those of each query form a table, and no call failed
pub record TellsTables (run : BatchRun) (lists : List (List Row)) : Type 0 where
  pub told : run.told ≡ map Some lists
  pub tables : All (λ ready. IsTable ready.count (lists_for lists ready)) run.readies
  pub untroubled : (source : ℕ) → source < length run.sizes → NoneFailed (counts_at run.before source) (counts_at run.now source)

-- how a query ends over its lists D: with the one answer, or refused for a room that it states and its one run passes
abbrev pub EndsOver : List (List Row) → Ready → Ended → Type 0
EndsOver D ready (ended.Answered answer) = AnswersOver ready D answer
EndsOver D ready (ended.Core (RoomFull room)) = IsOverRoomWith (method_of_ready ready) ready.query ready.count D room
EndsOver _ _ _ = ⊥

-- a look fails for what happened outside: a call failed or was answered by garbled data, or the list was replaced by one of another version
abbrev pub IsOutside : LookFault → Type 0
IsOutside (why.Call kind.Failed) = Unit {0}
IsOutside (why.Call kind.Garbled) = Unit {0}
IsOutside (why.Source (Moved had now)) = had ≢ now
IsOutside _ = ⊥

-- how a query ends over its lists D whatever happened outside: as it does alone, or refused for that
abbrev pub EndsOrFails : List (List Row) → Ready → Ended → Type 0
EndsOrFails D ready (ended.Answered answer) = AnswersOver ready D answer
EndsOrFails D ready (ended.Core (RoomFull room)) = IsOverRoomWith (method_of_ready ready) ready.query ready.count D room
EndsOrFails D ready (ended.Look list fault) = IsOutside fault
EndsOrFails _ _ _ = ⊥
