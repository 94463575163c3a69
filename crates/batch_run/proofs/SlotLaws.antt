-- What fetchers did of the slots of a batch.
use Rattle.std.proofs.Common.{◌≡◌, ◌<◌, ℕ, true, Option, Some, None, is_some, List, All, length, slice_index, slice_index_or, sym, ap, subst, ◌∙◌, arith}
use Rattle.std.proofs.lemmas.List.{length-map}
use Rattle.std.proofs.lemmas.Option.{same_Some}
use Rattle.ranked_list.specs.declared.row.Row.{Row}
use Rattle.atomic_table.specs.Seated.{TableId}
use Rattle.source_api.specs.declared.counts.Counts.{Counts}
use Rattle.source_api.specs.Calls.{Call}
use Rattle.source_api.specs.Counting.{NoneFell}
use Rattle.source_pool.specs.Passes.{Feed, lock_at, feed_at, IsIdleOf, AreFeedersOf}
use Rattle.source_pool.specs.Sharing.{first_feed}
use Rattle.fetcher.specs.declared.slot.Slot.{Slot}
use Rattle.fetcher.specs.declared.turned.Fetched.{Fetched}
use Rattle.fetcher.specs.Turning.{Feeds}
use Rattle.fetcher.specs.Chaining.{moment, IsFetched, point, MadeItsCalls}
use Rattle.fetcher.specs.Metering.{IsMetered, nothing}
use Rattle.fetcher.specs.Moving.{MovesOnly}
use Rattle.batch_result.specs.Using.{IsReplaced}
use Rattle.topk_base.specs.declared.settings.Settings.{Settings}
use Rattle.workers.specs.Sides.{HasFeeder}
use Rattle.batch_run.specs.Slots.{SlotState, state_of, states_of, slot_at, Fetches, AllFetch, AreLent, AreTakenBack}
use Rattle.batch_run.specs.WorkerPools.{HasFetched}
use Rattle.batch_result.proofs.Places.{map_at, stands_at}

-- what one fetcher did, and that its feeder is idle
record FetchedOne (pool : List TableId) (settings : Settings) (source count : ℕ) (before after : SlotState) (feed : Feed) : Type 0 where
  fetched : HasFetched pool settings source count before after feed
  idle : IsIdleOf pool feed
  number : feed.source ≡ source

fetched_one : (pool : List TableId) (settings : Settings) (source count : ℕ) (b l g k : SlotState) (feed end : Feed) → l ≡ record b { feeder = Some feed; fetched = nothing }
    → Fetches pool settings l g → k ≡ record g { feeder = None } → g.feeder ≡ Some end → feed ≡ first_feed (lock_at pool source) source count
    → FetchedOne pool settings source count b k end
fetched_one pool settings source count b l g k feed end lent f back was first =
    let mine : f.feed ≡ first_feed (lock_at pool source) source count = same_Some _ _ (sym f.had ∙ ap (λ (s : SlotState). s.feeder) lent) ∙ first in
    let his : f.left ≡ end = same_Some _ _ (sym f.has ∙ was) in
    let counts_b : l.counts ≡ b.counts = ap (λ (s : SlotState). s.counts) lent in
    let counts_k : g.counts ≡ k.counts = sym (ap (λ (s : SlotState). s.counts) back) in
    let calls_b : l.calls ≡ b.calls = ap (λ (s : SlotState). s.calls) lent in
    let calls_k : g.calls ≡ k.calls = sym (ap (λ (s : SlotState). s.calls) back) in
    let told_b : l.told ≡ b.told = ap (λ (s : SlotState). s.told) lent in
    let version_b : l.version ≡ b.version = ap (λ (s : SlotState). s.version) lent in
    let fetched_k : g.fetched ≡ k.fetched = sym (ap (λ (s : SlotState). s.fetched) back) in
    record {
      fetched = record {
        told = ap (λ (s : SlotState). s.told) back ∙ (f.told ∙ told_b);
        version = ap (λ (s : SlotState). s.version) back ∙ (f.version ∙ version_b);
        later = subst (λ (c : Counts). NoneFell c k.counts) counts_b (subst (NoneFell l.counts) counts_k f.later);
        feeds = subst (λ (x : Feed). Feeds x.pass.1 end.pass.1) mine (subst (λ (x : Feed). Feeds f.feed.pass.1 x.pass.1) his f.feeds);
        turns = subst (λ (t : Option (List Row)). IsFetched settings.page settings.ahead t (moment b.counts (first_feed (lock_at pool source) source count).pass.1) (moment k.counts end.pass.1)) told_b
            (subst (λ (c : Counts). IsFetched settings.page settings.ahead l.told (moment c (first_feed (lock_at pool source) source count).pass.1) (moment k.counts end.pass.1)) counts_b
            (subst (λ (x : Feed). IsFetched settings.page settings.ahead l.told (moment l.counts x.pass.1) (moment k.counts end.pass.1)) mine
            (subst (λ (c : Counts). IsFetched settings.page settings.ahead l.told (moment l.counts f.feed.pass.1) (moment c end.pass.1)) counts_k
            (subst (λ (x : Feed). IsFetched settings.page settings.ahead l.told (moment l.counts f.feed.pass.1) (moment g.counts x.pass.1)) his f.turns))));
        called = subst (λ (z : Option (List Call) × Feed × Option (List Call) × Feed). MadeItsCalls settings.page settings.ahead (point z.0 z.1.pass.1) (point z.2 z.3.pass.1))
            (λ i. (calls_b i, mine i, calls_k i, his i)) f.called;
        metered = subst (λ (c : Counts). IsMetered settings.page settings.ahead k.fetched c k.counts (first_feed (lock_at pool source) source count).pass.1 end.pass.1) counts_b
            (subst (λ (x : Feed). IsMetered settings.page settings.ahead k.fetched l.counts k.counts x.pass.1 end.pass.1) mine
            (subst (λ (c : Counts). IsMetered settings.page settings.ahead k.fetched l.counts c f.feed.pass.1 end.pass.1) counts_k
            (subst (λ (n : Fetched). IsMetered settings.page settings.ahead n l.counts g.counts f.feed.pass.1 end.pass.1) fetched_k
            (subst (λ (x : Feed). IsMetered settings.page settings.ahead g.fetched l.counts g.counts f.feed.pass.1 x.pass.1) his f.metered))));
        moved = subst (λ v. MovesOnly (IsReplaced v b.counts k.counts) (first_feed (lock_at pool source) source count).pass.1.seen end.pass.1.seen) version_b
            (subst (λ (c : Counts). MovesOnly (IsReplaced l.version c k.counts) (first_feed (lock_at pool source) source count).pass.1.seen end.pass.1.seen) counts_b
            (subst (λ (x : Feed). MovesOnly (IsReplaced l.version l.counts k.counts) x.pass.1.seen end.pass.1.seen) mine
            (subst (λ (c : Counts). MovesOnly (IsReplaced l.version l.counts c) f.feed.pass.1.seen end.pass.1.seen) counts_k
            (subst (λ (x : Feed). MovesOnly (IsReplaced l.version l.counts g.counts) f.feed.pass.1.seen x.pass.1.seen) his f.moved))));
      };
      idle = subst (IsIdleOf pool) his f.idle;
      number = ap (λ (x : Feed). x.source) (sym his) ∙ (f.source ∙ ap (λ (x : Feed). x.source) mine);
    }

module _ {S : Type 0} (list : S → Option (List Row)) (counts : S → Counts) (calls : S → Option (List Call)) (at_hand : S → ℕ) where
  -- the state of a slot by its place
  pub slot_is : (slots : List (Slot S)) (source : ℕ) (d : Slot S) → source < length slots
      → slot_at (states_of list counts calls at_hand slots) source ≡ state_of list counts calls at_hand (slice_index_or slots source d)
  slot_is slots source d l = map_at (state_of list counts calls at_hand) slots source d _ l

  pub states_long : (slots : List (Slot S)) → length (states_of list counts calls at_hand slots) ≡ length slots
  states_long slots = length-map slots (state_of list counts calls at_hand)

  fetched_at : (pool : List TableId) (settings : Settings) (sizes : List ℕ) (feeds ends : List Feed) (before lent fetched after : List (Slot S))
      → AreLent list counts calls at_hand feeds before lent → AllFetch list counts calls at_hand pool settings lent fetched → AreTakenBack list counts calls at_hand fetched ends after
      → (source : ℕ) → source < length before → feed_at feeds source ≡ first_feed (lock_at pool source) source (slice_index sizes source)
      → FetchedOne pool settings source (slice_index sizes source) (slot_at (states_of list counts calls at_hand before) source) (slot_at (states_of list counts calls at_hand after) source) (feed_at ends source)
  fetched_at pool settings sizes feeds ends before lent fetched after given fetch back source l first =
      let d = (stands_at before source l).item in
      let there : source < length lent = let e = given.size in omega (arith, e, l) in
      let then_ : source < length fetched = let e = fetch.size in omega (arith, e, there) in
      let now : source < length after = let e = back.size in omega (arith, e, then_) in
      fetched_one pool settings source (slice_index sizes source) (slot_at (states_of list counts calls at_hand before) source) (state_of list counts calls at_hand (slice_index_or lent source d))
      (state_of list counts calls at_hand (slice_index_or fetched source d)) (slot_at (states_of list counts calls at_hand after) source) (feed_at feeds source) (feed_at ends source)
      (subst (λ (s : SlotState). state_of list counts calls at_hand (slice_index_or lent source d) ≡ record s { feeder = Some (feed_at feeds source); fetched = nothing }) (sym (slot_is before source d l)) (given.each source d l))
      (fetch.each source d there)
      (subst (λ (s : SlotState). s ≡ record (state_of list counts calls at_hand (slice_index_or fetched source d)) { feeder = None }) (sym (slot_is after source d now)) (back.each source d then_))
      (back.were source d then_) first

  -- what all fetchers did, and that their feeders are those of the pool
  pub record AllFetched (pool : List TableId) (settings : Settings) (sizes : List ℕ) (before after : List (Slot S)) (ends : List Feed) : Type 0 where
    pub slots : (length (states_of list counts calls at_hand before) ≡ length sizes) × (length (states_of list counts calls at_hand after) ≡ length sizes)
    pub feeders : AreFeedersOf pool ends
    pub fetched : (source : ℕ) → source < length sizes
        → HasFetched pool settings source (slice_index sizes source) (slot_at (states_of list counts calls at_hand before) source) (slot_at (states_of list counts calls at_hand after) source) (feed_at ends source)

  pub all_fetched : (pool : List TableId) (settings : Settings) (sizes : List ℕ) (feeds ends : List Feed) (before lent fetched after : List (Slot S))
      → length pool ≡ length sizes → length sizes ≡ length before
      → AreLent list counts calls at_hand feeds before lent → AllFetch list counts calls at_hand pool settings lent fetched → AreTakenBack list counts calls at_hand fetched ends after
      → ((source : ℕ) → source < length sizes → feed_at feeds source ≡ first_feed (lock_at pool source) source (slice_index sizes source))
      → AllFetched pool settings sizes before after ends
  all_fetched pool settings sizes feeds ends before lent fetched after size many given fetch back first =
      let a = given.size in
      let b = fetch.size in
      let c = back.size in
      let m = back.many in
      let one = λ (source : ℕ) (l : source < length sizes). fetched_at pool settings sizes feeds ends before lent fetched after given fetch back source (omega (arith, l, many)) (first source l) in
      record {
        slots = (states_long before ∙ sym many, states_long after ∙ omega (arith, a, b, c, many));
        feeders = record {
          size = omega (arith, a, b, m, many, size);
          each = λ source l.
              let x = one source (omega (arith, l, size)) in
              record { own = x.idle.of.own ∙ ap (lock_at pool) x.number; rests = x.idle.rests };
          sources = λ source l. (one source (omega (arith, l, size))).number;
        };
        fetched = λ source l. (one source l).fetched;
      }

  -- every slot has a feeder once all were lent
  pub lists_same : (pool : List TableId) (settings : Settings) (feeds ends : List Feed) (before lent fetched after : List (Slot S))
      → AreLent list counts calls at_hand feeds before lent → AllFetch list counts calls at_hand pool settings lent fetched → AreTakenBack list counts calls at_hand fetched ends after
      → (source : ℕ) (d : Slot S) → source < length before → list (slice_index_or after source d).source ≡ list (slice_index_or before source d).source
  lists_same pool settings feeds ends before lent fetched after given fetch back source d l =
      let there : source < length lent = let e = given.size in omega (arith, e, l) in
      let then_ : source < length fetched = let e = fetch.size in omega (arith, e, there) in
      ap (λ (s : SlotState). s.told) (back.each source d then_) ∙ ((fetch.each source d there).told ∙ ap (λ (s : SlotState). s.told) (given.each source d l))

  -- the slots have feeders of the pool once all were lent
  pub all_fed : (pool : List TableId) (feeds : List Feed) (before lent : List (Slot S)) → length feeds ≡ length before → AreFeedersOf pool feeds
      → AreLent list counts calls at_hand feeds before lent → All (λ (slot : Slot S). HasFeeder pool slot.feeder) lent
  all_fed pool feeds before lent many own given i d l =
      let size = given.size in
      let there : i < length before = omega (arith, l, size) in
      let long = own.size in
      let within : i < length pool = omega (arith, there, many, long) in
      let free = own.each i within in
      let number = own.sources i within in
      record {
        feed = feed_at feeds i;
        is = ap (λ (s : SlotState). s.feeder) (given.each i d there);
        idle = record { of = record { source = omega (arith, number, within); own = free.own ∙ ap (lock_at pool) (sym number) }; rests = free.rests };
      }

  -- nothing is fetched of them yet
  pub all_fresh : (feeds : List Feed) (before lent : List (Slot S)) → AreLent list counts calls at_hand feeds before lent
      → All (λ (slot : Slot S). slot.fetched ≡ nothing) lent
  all_fresh feeds before lent given i d l =
      let size = given.size in
      ap (λ (s : SlotState). s.fetched) (given.each i d (omega (arith, l, size)))

  -- and have them once all fetchers have fetched
  pub all_full : (pool : List TableId) (settings : Settings) (lent fetched : List (Slot S)) → AllFetch list counts calls at_hand pool settings lent fetched
      → All (λ (slot : Slot S). is_some slot.feeder ≡ true) fetched
  all_full pool settings lent fetched fetch i d l =
      let size = fetch.size in
      let one = fetch.each i d (omega (arith, l, size)) in
      ap (λ (feeder : Option Feed). is_some feeder) one.has
