-- What handles leave, taken together.
use Rattle.std.proofs.Common.{◌≡◌, ◌<◌, ℕ, Option, List, All, length, map, slice_index_or, refl, sym, ap, subst, ◌∙◌, inl, inr, arith}
use Rattle.std.proofs.lemmas.List.{length-map}
use Rattle.ranked_list.specs.declared.row.Row.{Row}
use Rattle.atomic_table.specs.Seated.{TableId}
use Rattle.topk_base.specs.declared.settings.Settings.{Settings}
use Rattle.source_api.specs.declared.counts.Counts.{Counts}
use Rattle.source_api.specs.Calls.{Call}
use Rattle.query_core.specs.declared.ready.Ready.{Ready}
use Rattle.fetcher.specs.declared.slot.Slot.{Slot}
use Rattle.fetcher.specs.declared.serving.Began.{Began}
use Rattle.fetcher.specs.Serving.{IsServed}
use Rattle.batch_result.proofs.Places.{stands_at, map_at}
use Rattle.batch_run.specs.declared.work.Worker.{Worker}
use Rattle.keyed_lock.specs.declared.handles.WorkerHandle.{WorkerHandle}
use Rattle.fetcher.specs.declared.slot_table.SlotTable.{SlotTable}
use Rattle.batch_run.specs.Working.{IsAtWork, Worked, AllWorked}
use Rattle.workers.specs.Sides.{IsOpenedOver}
use Rattle.batch_run.specs.Slots.{state_of, Fetches, AllFetch}
use Rattle.fetcher.specs.SlotTables.{IsSlotTable, AreServed}
use Rattle.batch_run.specs.Handles.{AllHandles}
use Rattle.batch_run.proofs.WorkLaws.{worked_same}

-- workers that have not begun
pub all_idle : (pool : List TableId) (tickets : TableId) (readies : List Ready) (workers now : List Worker) → All (IsAtWork pool tickets readies) workers
    → now ≡ workers → AllWorked pool tickets readies workers now
all_idle pool tickets readies workers now at same =
    subst (AllWorked pool tickets readies workers) (sym same)
    (record { size = refl; each = λ i d l. worked_same pool tickets readies (slice_index_or workers i d) (at i d l) })

module _ {S : Type 0} where
  -- what holds of workers holds of those that were given passes
  pub all_given : (P : Worker → Type 0) (before : List Worker) (handles : List (WorkerHandle Worker (Slot S) (Began S)))
      → map (λ (handle : WorkerHandle Worker (Slot S) (Began S)). handle.worker) handles ≡ before → All P before
      → All (λ (handle : WorkerHandle Worker (Slot S) (Began S)). P handle.worker) handles
  all_given P before handles are at i d l =
      subst P (map_at (λ (handle : WorkerHandle Worker (Slot S) (Began S)). handle.worker) handles i d d.worker l)
      (subst (λ (ws : List Worker). P (slice_index_or ws i d.worker)) (sym are)
      (at i d.worker (let e : length before ≡ length handles = sym (ap length are) ∙ length-map handles (λ (handle : WorkerHandle Worker (Slot S) (Began S)). handle.worker) in omega (arith, e, l))))

  -- and have worked once they gave their passes back
  pub handles_end : (pool : List TableId) (tickets : TableId) (readies : List Ready) (before after : List Worker) (handles left : List (WorkerHandle Worker (Slot S) (Began S)))
      → map (λ (handle : WorkerHandle Worker (Slot S) (Began S)). handle.worker) handles ≡ before → after ≡ map (λ (handle : WorkerHandle Worker (Slot S) (Began S)). handle.worker) left
      → AllHandles pool tickets readies handles left → AllWorked pool tickets readies before after
  handles_end pool tickets readies before after handles left were are all =
      let long : length before ≡ length handles = sym (ap length were) ∙ length-map handles (λ (handle : WorkerHandle Worker (Slot S) (Began S)). handle.worker) in
      let now : length after ≡ length left = ap length are ∙ length-map left (λ (handle : WorkerHandle Worker (Slot S) (Began S)). handle.worker) in
      let size = all.size in
      record {
        size = omega (arith, long, now, size);
        each = λ i d l.
            let within : i < length handles = omega (arith, long, l) in
            let there : i < length left = omega (arith, size, within) in
            let h = (stands_at handles i within).item in
            subst (λ (z : Worker × Worker). Worked pool tickets readies z.0 z.1)
            (λ k. (
              (sym (map_at (λ (handle : WorkerHandle Worker (Slot S) (Began S)). handle.worker) handles i h d within) ∙ ap (λ (ws : List Worker). slice_index_or ws i d) were) k,
              (sym (map_at (λ (handle : WorkerHandle Worker (Slot S) (Began S)). handle.worker) left i h d there) ∙ ap (λ (ws : List Worker). slice_index_or ws i d) (sym are)) k,
            ))
            (all.worked i h within);
      }

module _ {S : Type 0} (list : S → Option (List Row)) (counts : S → Counts) (calls : S → Option (List Call)) (at_hand : S → ℕ) (states : S → Option ℕ) where
  -- what was served at a slot is what a fetcher does
  pub fetches_of : (pool : List TableId) (settings : Settings) (before now : Slot S) → IsServed list counts calls at_hand states pool settings.page settings.ahead before now
      → Fetches pool settings (state_of list counts calls at_hand before) (state_of list counts calls at_hand now)
  fetches_of pool settings before now s = record {
    feed = s.feed;
    left = s.left;
    had = s.had;
    has = s.has;
    idle = s.idle;
    source = s.source;
    told = s.told;
    version = s.version;
    later = s.later;
    feeds = s.feeds;
    turns = s.turns;
    called = s.called;
    metered = s.meters.metered;
    moved = λ had other tells. elim (s.moved had other tells) [
      | inl was ↦ inl was
      | inr is ↦ inr (record { at_hand = is.move.at_hand; differ = is.move.differ; counted = is.counted })
    ];
  }

  -- what was served is what all fetchers do
  all_fetch : (pool : List TableId) (settings : Settings) (slots now : List (Slot S))
      → AreServed list counts calls at_hand states pool settings.page settings.ahead slots now → AllFetch list counts calls at_hand pool settings slots now
  all_fetch pool settings slots now s = record {
    size = s.size;
    each = λ i d l. fetches_of pool settings (slice_index_or slots i d) (slice_index_or now i d) (s.each i d l);
  }

  -- no turn at all
  pub none_fetched : (pool : List TableId) (settings : Settings) (slots now : List (Slot S))
      → AreServed list counts calls at_hand states pool settings.page settings.ahead slots slots → now ≡ slots → AllFetch list counts calls at_hand pool settings slots now
  none_fetched pool settings slots now fresh same =
      subst (λ (xs : List (Slot S)). AllFetch list counts calls at_hand pool settings slots xs) (sym same) (all_fetch pool settings slots slots fresh)

  -- what the table gave back
  pub all_served : (table : SlotTable S) (pool : List TableId) (settings : Settings) (slots now : List (Slot S)) → IsSlotTable table pool
      → IsOpenedOver settings slots table
      → AreServed list counts calls at_hand states table.lock.key.pool.value table.lock.key.page table.lock.key.ahead table.lock.key.slots.value.items now
      → AllFetch list counts calls at_hand pool settings slots now
  all_served table pool settings slots now are began served =
      all_fetch pool settings slots now
      (subst (λ (z : List TableId × ℕ × ℕ × List (Slot S)). AreServed list counts calls at_hand states z.0 z.1 z.2 z.3 now)
      (λ k. (are.of k, began.page k, began.ahead k, began.are k)) served)
