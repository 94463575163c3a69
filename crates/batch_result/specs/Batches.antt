-- Batches: queries that ran over sources at the same time, how they ended, and what was used of each source.
use Rattle.std.specs.Prelude.{◌≡◌, ◌≢◌, ◌<◌, ℕ, Option, Some, List, All, Contains, length, map, IfSome}
use Rattle.std.specs.List.{AllZip, slice_index_or}
use Rattle.ranked_list.specs.declared.row.Row.{Row}
use Rattle.ranked_list.specs.Table.{IsRanked, objects}
use Rattle.source_api.specs.declared.counts.Counts.{Counts}
use Rattle.source_api.specs.Calls.{Call}
use Rattle.source_api.specs.declared.source.FailKind.TheVariants as kind
use Rattle.source_state.specs.declared.look.LookFault.TheVariants as why
use Rattle.source_state.specs.State.{State, IsSound, state_at}
use Rattle.query_core.specs.declared.ready.Ready.{Ready}
use Rattle.query_run.specs.declared.ended.Ended.{Ended}
use Rattle.query_run.specs.declared.ended.Refusal.TheVariants.{Look}
use Rattle.query_run.specs.declared.running_query.RunningQuery.{RunningQuery}
use Rattle.query_run.specs.Kept.{IsServed}
use Rattle.query_run.specs.Made.{IsOf}
use Rattle.query_run.specs.Honest.{IsTrueOf}
use Rattle.query_run.specs.Endings.{EndsAs, IsRight}
use Rattle.fetcher.specs.declared.slot.Slot.{Slot}
use Rattle.fetcher.specs.Called.{WasCalled}
use Rattle.fetcher.specs.Moving.{TellsNoMove}
use Rattle.fetcher.specs.Telling.{TellsOf}
use Rattle.topk_base.specs.declared.settings.Settings.{Settings}
use Rattle.batch_result.specs.Numbered.{told_at, version_at, counts_at, calls_at}
use Rattle.batch_result.specs.Refusing.{IsRefusedByTurns}
use Rattle.batch_result.specs.declared.batch.Use.{Use}
use Rattle.batch_result.specs.Using.{IsUsed, HasCounted}

-- what contracts see of a batch
pub record BatchState : Type 0 where
  pub endings : List Ended
  pub uses : List Use

abbrev pub batch_of : List Ended → List Use → BatchState
batch_of endings uses = record { endings = endings; uses = uses }

-- what a batch was run on: the settings, how many objects each source has, the queries that were ready, the lists that the sources tell, their versions
-- that are at hand, what the sources had counted before and count now, and the calls that were made of them before and by now
pub record BatchRun : Type 0 where
  pub settings : Settings
  pub sizes : List ℕ
  pub readies : List Ready
  pub told : List (Option (List Row))
  pub versions : List ℕ
  pub before : List Counts
  pub now : List Counts
  pub made : List (Option (List Call))
  pub calls : List (Option (List Call))

-- the run of a batch on slots of sources, which stood so before and stand so now
abbrev pub run_of : {S : Type 0} → (S → Option (List Row)) → (S → Counts) → (S → Option (List Call)) → (S → ℕ) → Settings → List ℕ → List Ready
    → List (Slot S) → List (Slot S) → BatchRun
run_of list counts calls at_hand settings sizes readies old new = record {
  settings = settings;
  sizes = sizes;
  readies = readies;
  told = map (λ slot. list slot.source) old;
  versions = map (λ slot. at_hand slot.source) old;
  before = map (λ slot. counts slot.source) old;
  now = map (λ slot. counts slot.source) new;
  made = map (λ slot. calls slot.source) old;
  calls = map (λ slot. calls slot.source) new;
}

-- the number of objects of a source; what was used of a source, none where it isn't there
abbrev pub size_at : List ℕ → ℕ → ℕ
size_at sizes source = slice_index_or sizes source 0

abbrev pub use_at : List Use → ℕ → Use
use_at uses source = slice_index_or uses source (record { rows = 0; grades = 0; want = 0; asks = 0 })

-- where a list is ranked and as long as the source counts, only objects of it were asked, and it was never replaced, the state tells the truth of it
pub record IsHonestFor (list : List Row) (s : State) : Type 0 where
  pub honest : IsRanked list → length list ≡ s.count → ((object : ℕ) → Contains s.asks object → Contains (objects list) object) → TellsNoMove s.log
      → IsTrueOf list s

-- the closing state of a source: it is sound, and tells of the source's list alone, where the source tells one, and honestly
pub record IsClosing (source size : ℕ) (told : Option (List Row)) (s : State) : Type 0 where
  pub sound : IsSound s
  pub list : s.list ≡ source
  pub count : s.count ≡ size
  pub tells : IfSome told (λ list. TellsOf list s.log)
  pub honest : IfSome told (λ list. IsHonestFor list s)

-- a query isn't refused for lack of memory
abbrev pub IsSpared : RunningQuery → Type 0
IsSpared q = (list : ℕ) → q.refusal ≢ Some (Look list (why.Call kind.Memory))

-- how a batch ended. There are the closing states of the sources, and the queries as they stood at their ends, in their order:
--   each query's transcript is drawn from the closing logs of its sources and is how the run of its algorithm begins on every table that
--   agrees with it, and a refused one has its cause in the closing state of the source that it needed;
--   each ended as it stood, with the answer of its run, which is right, or as it was refused, by its own turns, and none for lack of memory;
--   of each source no more was used than the queries asked for, no query is refused for a call that failed but where such calls were counted, and a list
--   was replaced only where that was counted, in place of the version at hand;
--   where a source tells its calls, those of the run are for pages as the settings cut them and for grades that were asked for, each once, and its closing
--   log is what they gave
pub record IsBatch (run : BatchRun) (batch : BatchState) : Type 0 where
  pub states : List State
  pub queries : List RunningQuery
  pub many : length states ≡ length run.sizes
  pub closing : (source : ℕ) → source < length run.sizes → IsClosing source (size_at run.sizes source) (told_at run.told source) (state_at states source)
  pub of : AllZip IsOf run.readies queries
  pub served : All (IsServed states) queries
  pub ends : AllZip EndsAs queries batch.endings
  pub right : AllZip IsRight run.readies batch.endings
  pub spared : All IsSpared queries
  pub own : All (IsRefusedByTurns states) queries
  pub uses : length batch.uses ≡ length run.sizes
  pub used : (source : ℕ) → source < length run.sizes
      → IsUsed run.settings queries source (state_at states source) (counts_at run.before source) (counts_at run.now source) (use_at batch.uses source)
  pub counted : (source : ℕ) → source < length run.sizes
      → HasCounted run.settings.workers queries source (state_at states source) (version_at run.versions source) (counts_at run.before source)
      (counts_at run.now source)
  pub called : (source : ℕ) → source < length run.sizes
      → WasCalled run.settings.page run.settings.ahead (calls_at run.made source) (calls_at run.calls source) (state_at states source)
