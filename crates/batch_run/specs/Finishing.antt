-- What the batch gives, once its worker pool has run.
use Rattle.std.specs.Prelude.{◌≡◌, ◌<◌, ◌^◌, ℕ, List, length, map}
use Rattle.source_state.specs.State.{State}
use Rattle.query_core.specs.declared.ready.Ready.{Ready}
use Rattle.fetcher.specs.declared.turned.Fetched.{Fetched}
use Rattle.topk_base.specs.declared.settings.Settings.{Settings}
use Rattle.topk_base.specs.Ranges.{AreSettings}
use Rattle.batch_result.specs.declared.batch.Use.{Use}
use Rattle.batch_run.specs.declared.worker_pool.WorkerPool.{WorkerPool}
use Rattle.batch_result.specs.Batches.{BatchRun}
use Rattle.batch_run.specs.Slots.{SlotState}
use Rattle.batch_run.specs.WorkerPools.{HasRun}

-- what was used of a source, by its closing state and what was fetched
pub record UsedOf (s : State) (fetched : Fetched) (used : Use) : Type 0 where
  pub rows : used.rows ≡ fetched.rows
  pub grades : used.grades ≡ fetched.grades
  pub want : used.want ≡ s.want
  pub asks : used.asks ≡ length s.asks

-- the run of a batch on slots that stood so before and stand so now
abbrev pub slots_run : Settings → List ℕ → List Ready → List SlotState → List SlotState → BatchRun
slots_run settings counts readies before after = record {
  settings = settings;
  sizes = counts;
  readies = readies;
  told = map (λ slot. slot.told) before;
  versions = map (λ slot. slot.version) before;
  before = map (λ slot. slot.counts) before;
  now = map (λ slot. slot.counts) after;
  made = map (λ slot. slot.calls) before;
  calls = map (λ slot. slot.calls) after;
}

-- a worker pool has run these queries
pub record CanFinish (settings : Settings) (counts : List ℕ) (readies : List Ready) (before after : List SlotState) (worker_pool : WorkerPool) : Type 0 where
  pub settings_are : AreSettings settings
  pub ran : HasRun settings counts readies before after worker_pool
  pub few : (length readies < 2 ^ 32) × (length counts < 2 ^ 32)
