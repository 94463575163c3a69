-- A slot that was taken out of the table, and one that is given back; a table that is opened and closed.
use Rattle.std.proofs.Common.{◌≡◌, ℕ, Option, List, length, slice_index_or, sym, subst, arith}
use Rattle.std.proofs.lemmas.List.{get_or_default}
use Rattle.ranked_list.specs.declared.row.Row.{Row}
use Rattle.atomic_table.specs.Seated.{TableId}
use Rattle.source_api.specs.declared.counts.Counts.{Counts}
use Rattle.source_api.specs.Calls.{Call}
use Rattle.fetcher.specs.declared.slot.Slot.{Slot}
use Rattle.fetcher.specs.Serving.{IsServed, IsServedFrom}
use Rattle.fetcher.specs.declared.slot_table.SlotTable.{SlotTable}
use Rattle.keyed_lock.specs.Hold.{KeepAll}
use Rattle.fetcher.specs.declared.serving.Began.{Began}
use Rattle.fetcher.specs.SlotTables.{IsSlotTable, AreServed}

module _ {S : Type 0} (list : S → Option (List Row)) (counts : S → Counts) (calls : S → Option (List Call)) (at_hand : S → ℕ) (states : S → Option ℕ) where
  pub taken : (table : SlotTable S) (pool : List TableId) (place : ℕ) (slot : Slot S) → IsSlotTable table pool
      → IsServedFrom list counts calls at_hand states table.lock.key.pool.value table.lock.key.page table.lock.key.ahead table.lock.key.slots.value.items place slot
      → (d : Slot S) → IsServed list counts calls at_hand states pool table.page table.ahead (slice_index_or table.lock.key.slots.value.items place d) slot
  taken table pool place slot are h d =
      subst (λ (z : List TableId × ℕ × ℕ). IsServed list counts calls at_hand states z.0 z.1 z.2 (slice_index_or table.lock.key.slots.value.items place d) slot)
      (λ i. (are.of i, are.page i, are.ahead i)) (h.served d)

  pub given : (table : SlotTable S) (pool : List TableId) (place : ℕ) (slot : Slot S) → IsSlotTable table pool
      → ((d : Slot S) → IsServed list counts calls at_hand states pool table.page table.ahead (slice_index_or table.lock.key.slots.value.items place d) slot)
      → IsServedFrom list counts calls at_hand states table.lock.key.pool.value table.lock.key.page table.lock.key.ahead table.lock.key.slots.value.items place slot
  given table pool place slot are h = record {
    served = λ d. subst (λ (z : List TableId × ℕ × ℕ). IsServed list counts calls at_hand states z.0 z.1 z.2 (slice_index_or table.lock.key.slots.value.items place d) slot)
        (λ i. (sym are.of i, sym are.page i, sym are.ahead i)) (h d);
  }

  -- the fact that the table keeps
  abbrev pub kept_fact : Began S → ℕ → Slot S → Type 0
  kept_fact began place slot = IsServedFrom list counts calls at_hand states began.pool.value began.page began.ahead began.slots.value.items place slot

  -- before any turn the slots keep what the table is opened with
  pub keep_opened : (began : Began S) (pool : List TableId) (page ahead : ℕ) (slots : List (Slot S)) → began.pool.value ≡ pool
      → began.page ≡ page → began.ahead ≡ ahead → began.slots.value.items ≡ slots
      → AreServed list counts calls at_hand states pool page ahead slots slots → KeepAll kept_fact began slots
  keep_opened began pool page ahead slots own paged read were fresh = record {
    each = λ place d l.
        subst (λ (z : List TableId × ℕ × ℕ × List (Slot S)). IsServedFrom list counts calls at_hand states z.0 z.1 z.2 z.3 place (slice_index_or slots place d))
        (λ k. (sym own k, sym paged k, sym read k, sym were k))
        (record {
          served = λ e. subst (λ (b : Slot S). IsServed list counts calls at_hand states pool page ahead b (slice_index_or slots place d))
              (get_or_default slots place d e l) (fresh.each place d l);
        });
  }

  -- what the table keeps is what was served at them
  pub kept_served : (began : Began S) (now : List (Slot S)) → length now ≡ length began.slots.value.items → KeepAll kept_fact began now
      → AreServed list counts calls at_hand states began.pool.value began.page began.ahead began.slots.value.items now
  kept_served began now size keep = record {
    size = size;
    each = λ place d l. (keep.each place d (omega (arith, size, l))).served d;
  }
