-- Slots at which no turn was taken yet, and the handles of workers that leave their passes.
use Rattle.std.proofs.Common.{◌≡◌, ◌<◌, ◌+◌, ℕ, Option, List, All, IfSome, length, slice_index_or, refl, sym, ap, ◌∙◌, arith, vec_len}
use Rattle.ranked_list.specs.declared.row.Row.{Row}
use Rattle.atomic_table.specs.Seated.{TableId}
use Rattle.topk_base.specs.declared.settings.Settings.{Settings}
use Rattle.topk_base.specs.Ranges.{AreSettings}
use Rattle.source_api.specs.declared.counts.Counts.{Counts}
use Rattle.source_api.specs.Calls.{Call}
use Rattle.source_api.specs.Told.{HasEachOnce}
use Rattle.keyed_lock.specs.Hold.{Lock, share_of}
use Rattle.keyed_lock.specs.declared.hold.Hold.{Hold}
use Rattle.fetcher.specs.declared.slot.Slot.{Slot}
use Rattle.fetcher.specs.declared.serving.Began.{Began}
use Rattle.fetcher.specs.Metering.{nothing}
use Rattle.fetcher.specs.Serving.{IsServed}
use Rattle.fetcher.specs.SlotTables.{AreServed}
use Rattle.fetcher.proofs.ServeLaws.{served_none}
use Rattle.workers.specs.declared.sides.WorkerHandles.{WorkerHandles}
use Rattle.workers.specs.Sides.{HasFeeder, AreFetchers, AreHandles, KeepPasses}

module _ {S : Type 0} (list : S → Option (List Row)) (counts : S → Counts) (calls : S → Option (List Call)) (at_hand : S → ℕ) (states : S → Option ℕ) where
  fresh_at : (pool : List TableId) (settings : Settings) (slot : Slot S) → AreSettings settings → IfSome (list slot.source) HasEachOnce
      → HasFeeder pool slot.feeder → slot.fetched ≡ nothing → IsServed list counts calls at_hand states pool settings.page settings.ahead slot slot
  fresh_at pool settings slot are once has none =
      served_none list counts calls at_hand states pool settings.page settings.ahead slot has.feed are.some_rows are.few_rows are.few_pages once has.is has.idle none

  -- at slots that got their feeders no turn was taken yet
  pub all_fresh : (pool : List TableId) (settings : Settings) (slots : List (Slot S)) → AreSettings settings → ((source : S) → IfSome (list source) HasEachOnce)
      → All (λ (slot : Slot S). HasFeeder pool slot.feeder) slots → All (λ (slot : Slot S). slot.fetched ≡ nothing) slots
      → AreServed list counts calls at_hand states pool settings.page settings.ahead slots slots
  all_fresh pool settings slots are once has none = record {
    size = refl;
    each = λ i d l. fresh_at pool settings (slice_index_or slots i d) are (once (slice_index_or slots i d).source) (has i d l) (none i d l);
  }

module _ {K S : Type 0} where
  -- the handles are whole as before where the workers kept their passes
  pub still_handles : (lock : Lock (Began S)) (sources : ℕ) (before after : WorkerHandles K S) → AreHandles lock sources before
      → KeepPasses before.workers.items after.workers.items → AreFetchers lock sources after.fetchers.items → after.first ≡ before.first → AreHandles lock sources after
  still_handles lock sources before after are keep fetchers same =
      let size = keep.size in
      let many : vec_len after.workers ≡ vec_len before.workers = omega (arith, size, before.workers.ok.0, after.workers.ok.0) in
      let parts : after.first.1.parts ≡ before.first.1.parts = ap (λ (p : TableId × Hold (Began S)). p.1.parts) same in
      record {
        workers = λ i d l.
            let within : i < length before.workers.items = omega (arith, l, size) in
            keep.each i d within ∙ are.workers i d within;
        fetchers = fetchers;
        first = same ∙ (are.first ∙ ap (share_of lock) (sym parts));
        whole = ap (λ n. n + sources) (ap (λ n. n + vec_len after.workers) parts ∙ ap (λ n. before.first.1.parts + n) many) ∙ are.whole;
      }
