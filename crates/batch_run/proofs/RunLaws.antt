-- A worker pool that has run, and lists and counts of the slots.
use Rattle.std.proofs.Common.{◌≡◌, ◌<◌, ℕ, suc, Option, Result, Ok, Err, OnErr, List, [], ◌∷◌, length, map, refl, sym, ap, subst, ◌∙◌, arith}
use Rattle.std.specs.List.{AllZip}
use Rattle.ranked_list.specs.declared.row.Row.{Row}
use Rattle.source_api.specs.declared.counts.Counts.{Counts}
use Rattle.source_api.specs.Calls.{Call}
use Rattle.source_api.specs.Counting.{NoneFell}
use Rattle.fetcher.specs.declared.slot.Slot.{Slot}
use Rattle.topk_base.specs.declared.settings.Settings.{Settings}
use Rattle.query_core.specs.declared.ready.Ready.{Ready}
use Rattle.batch_run.specs.Slots.{SlotState, state_of, states_of, slot_at, AllFetch, AreLent, AreTakenBack}
use Rattle.batch_run.specs.Working.{AllWorked}
use Rattle.batch_run.proofs.WorkerLaws.{ran_parts}
use Rattle.batch_run.proofs.SlotLaws.{all_fetched}
use Rattle.batch_result.specs.Batches.{run_of}
use Rattle.batch_run.specs.declared.worker_pool.WorkerPool.{WorkerPool}
use Rattle.batch_run.specs.WorkerPools.{HasRun, IsNewWorkerPool}
use Rattle.batch_run.specs.Finishing.{slots_run}

module _ {S : Type 0} (list : S → Option (List Row)) (counts : S → Counts) (calls : S → Option (List Call)) (at_hand : S → ℕ) where
  -- the parts of the slots, at once and by their states
  parts_twice : {X : Type 0} (part : SlotState → X) (slots : List (Slot S))
      → map (λ (slot : Slot S). part (state_of list counts calls at_hand slot)) slots ≡ map part (states_of list counts calls at_hand slots)
  parts_twice part [] = refl
  parts_twice part (slot ∷ slots) = ap (λ xs. part (state_of list counts calls at_hand slot) ∷ xs) (parts_twice part slots)

  told_twice : (slots : List (Slot S)) → map (λ (slot : Slot S). list slot.source) slots ≡ map (λ (s : SlotState). s.told) (states_of list counts calls at_hand slots)
  told_twice slots = parts_twice (λ (s : SlotState). s.told) slots

  versions_twice : (slots : List (Slot S)) → map (λ (slot : Slot S). at_hand slot.source) slots ≡ map (λ (s : SlotState). s.version) (states_of list counts calls at_hand slots)
  versions_twice slots = parts_twice (λ (s : SlotState). s.version) slots

  counts_twice : (slots : List (Slot S)) → map (λ (slot : Slot S). counts slot.source) slots ≡ map (λ (s : SlotState). s.counts) (states_of list counts calls at_hand slots)
  counts_twice slots = parts_twice (λ (s : SlotState). s.counts) slots

  calls_twice : (slots : List (Slot S)) → map (λ (slot : Slot S). calls slot.source) slots ≡ map (λ (s : SlotState). s.calls) (states_of list counts calls at_hand slots)
  calls_twice slots = parts_twice (λ (s : SlotState). s.calls) slots

  pub run_is : (settings : Settings) (sizes : List ℕ) (readies : List Ready) (old new : List (Slot S))
      → run_of list counts calls at_hand settings sizes readies old new ≡ slots_run settings sizes readies (states_of list counts calls at_hand old) (states_of list counts calls at_hand new)
  run_is settings sizes readies old new = λ i. record {
    settings = settings;
    sizes = sizes;
    readies = readies;
    told = told_twice old i;
    versions = versions_twice old i;
    before = counts_twice old i;
    now = counts_twice new i;
    made = calls_twice old i;
    calls = calls_twice new i;
  }

  -- a part of the slots stays, and no count falls, where that is so of each slot
  pub parts_stay : {X : Type 0} (part : SlotState → X) (old new : List SlotState) → length old ≡ length new
      → ((source : ℕ) → source < length old → part (slot_at new source) ≡ part (slot_at old source)) → map part new ≡ map part old
  parts_stay part [] [] size h = refl
  parts_stay part [] (s ∷ new) size h = absurd (omega (arith, size))
  parts_stay part (s ∷ old) [] size h = absurd (omega (arith, size))
  parts_stay part (s ∷ old) (t ∷ new) size h =
      let first : part t ≡ part s = h 0 (omega arith) in
      let rest = parts_stay part old new (omega (arith, size)) (λ source l. h (suc source) (omega (arith, l))) in
      ap (λ x. x ∷ map part new) first ∙ ap (λ xs. part s ∷ xs) rest

  pub none_fell : (old new : List SlotState) → length old ≡ length new
      → ((source : ℕ) → source < length old → NoneFell (slot_at old source).counts (slot_at new source).counts)
      → AllZip NoneFell (map (λ (s : SlotState). s.counts) old) (map (λ (s : SlotState). s.counts) new)
  none_fell [] [] size h = tt
  none_fell [] (s ∷ new) size h = absurd (omega (arith, size))
  none_fell (s ∷ old) [] size h = absurd (omega (arith, size))
  none_fell (s ∷ old) (t ∷ new) size h = (h 0 (omega arith), none_fell old new (omega (arith, size)) (λ source l. h (suc source) (omega (arith, l))))

  pub slots_lists : (old new : List (Slot S))
      → map (λ (s : SlotState). s.told) (states_of list counts calls at_hand new) ≡ map (λ (s : SlotState). s.told) (states_of list counts calls at_hand old)
      → map (λ (slot : Slot S). list slot.source) new ≡ map (λ (slot : Slot S). list slot.source) old
  slots_lists old new e = told_twice new ∙ (e ∙ sym (told_twice old))

  pub slots_versions : (old new : List (Slot S))
      → map (λ (s : SlotState). s.version) (states_of list counts calls at_hand new) ≡ map (λ (s : SlotState). s.version) (states_of list counts calls at_hand old)
      → map (λ (slot : Slot S). at_hand slot.source) new ≡ map (λ (slot : Slot S). at_hand slot.source) old
  slots_versions old new e = versions_twice new ∙ (e ∙ sym (versions_twice old))

  pub slots_counts : (old new : List (Slot S))
      → AllZip NoneFell (map (λ (s : SlotState). s.counts) (states_of list counts calls at_hand old)) (map (λ (s : SlotState). s.counts) (states_of list counts calls at_hand new))
      → AllZip NoneFell (map (λ (slot : Slot S). counts slot.source) old) (map (λ (slot : Slot S). counts slot.source) new)
  slots_counts old new h =
      subst (λ xs. AllZip NoneFell xs (map (λ (slot : Slot S). counts slot.source) new)) (sym (counts_twice old))
      (subst (AllZip NoneFell (map (λ (s : SlotState). s.counts) (states_of list counts calls at_hand old))) (sym (counts_twice new)) h)

  -- no count fell where nothing was called
  pub counts_same : (slots : List (Slot S))
      → AllZip NoneFell (map (λ (slot : Slot S). counts slot.source) slots) (map (λ (slot : Slot S). counts slot.source) slots)
  counts_same [] = tt
  counts_same (slot ∷ slots) = (record { faults = omega arith; garbles = omega arith; moves = omega arith; rows_given = omega arith; grades_given = omega arith }, counts_same slots)

pub failed_so : {A E P Q : Type 0} (r : Result A E) → (P → Q) → OnErr r P → OnErr r Q
failed_so (Ok x) f h = tt
failed_so (Err e) f h = f h

module _ {S : Type 0} (list : S → Option (List Row)) (counts : S → Counts) (calls : S → Option (List Call)) (at_hand : S → ℕ) where
  -- a new worker pool has run once its feeders were lent, its workers worked, and its feeders were taken back
  pub has_run : (settings : Settings) (sizes : List ℕ) (readies : List Ready) (worker_pool now : WorkerPool) (before lent fetched after : List (Slot S))
      → IsNewWorkerPool sizes (length readies) settings.workers worker_pool → length sizes ≡ length before
      → AreLent list counts calls at_hand worker_pool.feeders.items before lent → AllFetch list counts calls at_hand worker_pool.pool settings lent fetched
      → AreTakenBack list counts calls at_hand fetched now.feeders.items after
      → AllWorked worker_pool.pool worker_pool.tickets readies worker_pool.workers.items now.workers.items
      → now ≡ record worker_pool { feeders = now.feeders; workers = now.workers }
      → HasRun settings sizes readies (states_of list counts calls at_hand before) (states_of list counts calls at_hand after) now
  has_run settings sizes readies worker_pool now before lent fetched after new many given fetch back worked same =
      let all = all_fetched list counts calls at_hand worker_pool.pool settings sizes worker_pool.feeders.items now.feeders.items before lent fetched after new.new_workers.base.size many given fetch back new.fed in
      let parts = ran_parts settings sizes readies worker_pool.pool worker_pool.tickets worker_pool.pass worker_pool.draws worker_pool.workers.items now.workers.items new.new_workers new.size worked in
      subst (HasRun settings sizes readies (states_of list counts calls at_hand before) (states_of list counts calls at_hand after)) (sym same)
      (record {
        base = parts.base;
        first = parts.first;
        size = parts.size;
        slots = all.slots;
        each = parts.each;
        feeders = all.feeders;
        fetched = all.fetched;
        places = new.places;
        endings = new.endings;
        uses = new.uses;
      })

module _ {S : Type 0} (list : S → Option (List Row)) (counts : S → Counts) (calls : S → Option (List Call)) (at_hand : S → ℕ) where
  -- what a run keeps of the sources
  pub kept_lists : (settings : Settings) (sizes : List ℕ) (readies : List Ready) (old new : List (Slot S)) (worker_pool : WorkerPool)
      → HasRun settings sizes readies (states_of list counts calls at_hand old) (states_of list counts calls at_hand new) worker_pool
      → map (λ (slot : Slot S). list slot.source) new ≡ map (λ (slot : Slot S). list slot.source) old
  kept_lists settings sizes readies old new worker_pool ran =
      slots_lists list counts calls at_hand old new
      (parts_stay list counts calls at_hand (λ (s : SlotState). s.told) (states_of list counts calls at_hand old) (states_of list counts calls at_hand new) (ran.slots.0 ∙ sym ran.slots.1)
      (λ source l. (ran.fetched source (subst (λ n. source < n) ran.slots.0 l)).told))

  pub kept_versions : (settings : Settings) (sizes : List ℕ) (readies : List Ready) (old new : List (Slot S)) (worker_pool : WorkerPool)
      → HasRun settings sizes readies (states_of list counts calls at_hand old) (states_of list counts calls at_hand new) worker_pool
      → map (λ (slot : Slot S). at_hand slot.source) new ≡ map (λ (slot : Slot S). at_hand slot.source) old
  kept_versions settings sizes readies old new worker_pool ran =
      slots_versions list counts calls at_hand old new
      (parts_stay list counts calls at_hand (λ (s : SlotState). s.version) (states_of list counts calls at_hand old) (states_of list counts calls at_hand new) (ran.slots.0 ∙ sym ran.slots.1)
      (λ source l. (ran.fetched source (subst (λ n. source < n) ran.slots.0 l)).version))

  pub kept_counts : (settings : Settings) (sizes : List ℕ) (readies : List Ready) (old new : List (Slot S)) (worker_pool : WorkerPool)
      → HasRun settings sizes readies (states_of list counts calls at_hand old) (states_of list counts calls at_hand new) worker_pool
      → AllZip NoneFell (map (λ (slot : Slot S). counts slot.source) old) (map (λ (slot : Slot S). counts slot.source) new)
  kept_counts settings sizes readies old new worker_pool ran =
      slots_counts list counts calls at_hand old new
      (none_fell list counts calls at_hand (states_of list counts calls at_hand old) (states_of list counts calls at_hand new) (ran.slots.0 ∙ sym ran.slots.1)
      (λ source l. (ran.fetched source (subst (λ n. source < n) ran.slots.0 l)).later))
