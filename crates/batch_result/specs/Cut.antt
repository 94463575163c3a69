-- What came of a batch that ran out of memory.
use Rattle.std.specs.Prelude.{◌≡◌, ◌<◌, ℕ, Option, Some, None, List, [], ◌∷◌, All, length, IfSome}
use Rattle.std.specs.List.{AllZip}
use Rattle.source_state.specs.State.{State, state_at}
use Rattle.query_core.specs.declared.ready.Ready.{Ready}
use Rattle.query_run.specs.declared.running_query.RunningQuery.{RunningQuery}
use Rattle.query_run.specs.Kept.{IsServed}
use Rattle.query_run.specs.Made.{IsOf}
use Rattle.batch_result.specs.declared.batch.Use.{Use}
use Rattle.fetcher.specs.Called.{WasCalled}
use Rattle.batch_result.specs.Numbered.{told_at, counts_at, calls_at}
use Rattle.batch_result.specs.Using.{IsUsed}
use Rattle.batch_result.specs.Batches.{BatchRun, IsClosing, size_at, use_at}

-- what queries read of the sources of a run, which closed in these states: each transcript is drawn from the closing logs and is how the run of its
-- algorithm begins on every table that agrees with it, of each source no more was used than the queries asked for, and the calls of it are those of the
-- settings, which gave its closing log
pub record IsReadBy (run : BatchRun) (queries : List RunningQuery) (states : List State) (uses : List Use) : Type 0 where
  pub many : length states ≡ length run.sizes
  pub closing : (source : ℕ) → source < length run.sizes → IsClosing source (size_at run.sizes source) (told_at run.told source) (state_at states source)
  pub served : All (IsServed states) queries
  pub used : (source : ℕ) → source < length run.sizes
      → IsUsed run.settings queries source (state_at states source) (counts_at run.before source) (counts_at run.now source) (use_at uses source)
  pub called : (source : ℕ) → source < length run.sizes
      → WasCalled run.settings.page run.settings.ahead (calls_at run.made source) (calls_at run.calls source) (state_at states source)

-- a query that began is one that is ready
abbrev pub IsOfBegun : Ready → Option RunningQuery → Type 0
IsOfBegun ready stood = IfSome stood (IsOf ready)

-- the queries that began
abbrev pub begun : List (Option RunningQuery) → List RunningQuery
begun [] = []
begun (None ∷ stood) = begun stood
begun (Some q ∷ stood) = q ∷ begun stood

-- a batch that ran out of memory. There are the queries as they stood when they ended or were let go, in their order, those that had begun; the
-- closing states of the sources; and what was used of them, which is no more than what these queries asked for: a source that no query asked gave nothing
pub record IsCut (run : BatchRun) : Type 0 where
  pub stood : List (Option RunningQuery)
  pub states : List State
  pub uses : List Use
  pub of : AllZip IsOfBegun run.readies stood
  pub read : IsReadBy run (begun stood) states uses
