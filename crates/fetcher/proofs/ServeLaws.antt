-- The turns at a slot go on from what the turns before it kept.
use Rattle.std.proofs.Common.{◌≡◌, ◌≤◌, ℕ, Option, Some, List, refl, sym, ap, subst, ◌∙◌}
use Rattle.std.specs.Prelude.{IfSome}
use Rattle.std.proofs.lemmas.Option.{same_Some}
use Rattle.ranked_list.specs.declared.row.Row.{Row}
use Rattle.atomic_table.specs.Seated.{TableId}
use Rattle.source_api.specs.declared.counts.Counts.{Counts}
use Rattle.source_api.specs.Counting.{NoneFell}
use Rattle.source_api.specs.Calls.{Call}
use Rattle.fetcher.specs.Calling.{IsFetchTurn}
use Rattle.source_api.specs.Told.{HasEachOnce}
use Rattle.source_api.proofs.CountLaws.{none_fell_same, none_fell_on}
use Rattle.source_pool.specs.Passes.{Feed, IsIdleOf}
use Rattle.fetcher.specs.declared.slot.Slot.{Slot}
use Rattle.fetcher.specs.declared.turned.Fetched.{Fetched}
use Rattle.fetcher.specs.declared.turned.Turned.{Turned}
use Rattle.fetcher.specs.Turning.{Feeds, Brings}
use Rattle.fetcher.specs.Chaining.{moment, IsFetched, point, MadeItsCalls}
use Rattle.fetcher.specs.Moving.{IsMovedAs, IsCountedMove, HasMovesOf}
use Rattle.fetcher.specs.Metering.{Meters, nothing, counted_by, HasCountOf}
use Rattle.fetcher.specs.Serving.{IsServed}
use Rattle.fetcher.proofs.ChainLaws.{fetched_none, fetched_more, calls_none, calls_more}
use Rattle.fetcher.proofs.MoveLaws.{turn_moves, counted_as, moves_none, counted_more}
use Rattle.fetcher.proofs.MeterLaws.{meter_none, meter_more, counts_fit, feeds_same, feeds_on}

module _ {S : Type 0} (list : S → Option (List Row)) (counts : S → Counts) (calls : S → Option (List Call)) (at_hand : S → ℕ) (states : S → Option ℕ) where
  -- before any turn
  pub served_none : (pool : List TableId) (page ahead : ℕ) (slot : Slot S) (feed : Feed) → 1 ≤ page → page ≤ 10000 → ahead ≤ 100
      → IfSome (list slot.source) HasEachOnce → slot.feeder ≡ Some feed → IsIdleOf pool feed → slot.fetched ≡ nothing
      → IsServed list counts calls at_hand states pool page ahead slot slot
  served_none pool page ahead slot feed some few short once has idle none = record {
    some_rows = some;
    few_rows = few;
    few_pages = short;
    feed = feed;
    left = feed;
    had = has;
    has = has;
    idle = idle;
    source = refl;
    told = refl;
    version = refl;
    stated = refl;
    later = none_fell_same (counts slot.source);
    feeds = feeds_same feed.pass.1;
    turns = fetched_none page ahead (list slot.source) (moment (counts slot.source) feed.pass.1) once;
    called = calls_none page ahead (point (calls slot.source) feed.pass.1);
    moved = moves_none (λ had other. IsCountedMove (at_hand slot.source) (states slot.source) (counts slot.source) (counts slot.source) had other) feed.pass.1.seen;
    meters = subst (λ (f : Fetched). Meters page ahead f (counts slot.source) (counts slot.source) feed.pass.1 feed.pass.1) (sym none)
        (meter_none page ahead (counts slot.source) feed.pass.1);
  }

  -- the feeder that stands in the slot is the one that was left
  left_is : (pool : List TableId) (page ahead : ℕ) (before now : Slot S) (feed : Feed) (s : IsServed list counts calls at_hand states pool page ahead before now)
      → now.feeder ≡ Some feed → s.left ≡ feed
  left_is pool page ahead before now feed s is = same_Some _ _ (sym s.has ∙ is)

  pub served_idle : (pool : List TableId) (page ahead : ℕ) (before now : Slot S) (feed : Feed) → IsServed list counts calls at_hand states pool page ahead before now
      → now.feeder ≡ Some feed → IsIdleOf pool feed
  served_idle pool page ahead before now feed s is = subst (IsIdleOf pool) (left_is pool page ahead before now feed s is) s.idle

  pub served_fits : (pool : List TableId) (page ahead : ℕ) (before now : Slot S) (feed next : Feed) (more : Counts) (turned : Turned)
      → IsServed list counts calls at_hand states pool page ahead before now → now.feeder ≡ Some feed → Feeds feed.pass.1 next.pass.1
      → Brings page ahead (list now.source) (counts now.source) more feed.pass.1 next.pass.1 turned → HasCountOf now.fetched turned
  served_fits pool page ahead before now feed next more turned s is feeds brings =
      counts_fit page ahead now.fetched turned (list now.source) (counts before.source) (counts now.source) more s.feed.pass.1 feed.pass.1 next.pass.1
      (subst (λ (f : Feed). Meters page ahead now.fetched (counts before.source) (counts now.source) s.feed.pass.1 f.pass.1)
      (left_is pool page ahead before now feed s is) s.meters) feeds brings

  -- one more turn
  pub served_more : (pool : List TableId) (page ahead : ℕ) (before now after : Slot S) (feed next : Feed) (turned : Turned)
      → IsServed list counts calls at_hand states pool page ahead before now → now.feeder ≡ Some feed → after.feeder ≡ Some next → IsIdleOf pool next
      → next.source ≡ feed.source → Feeds feed.pass.1 next.pass.1 → list after.source ≡ list now.source
      → at_hand after.source ≡ at_hand now.source → states after.source ≡ states now.source
      → NoneFell (counts now.source) (counts after.source)
      → Brings page ahead (list now.source) (counts now.source) (counts after.source) feed.pass.1 next.pass.1 turned
      → IsMovedAs (at_hand now.source) (states now.source) turned
      → IsFetchTurn page ahead (calls now.source) (calls after.source) feed.pass.1 next.pass.1 turned
      → after.fetched ≡ counted_by now.fetched turned
      → IsServed list counts calls at_hand states pool page ahead before after
  served_more pool page ahead before now after feed next turned s is then_ idle source feeds told version stated later brings said made fetched =
      let here = left_is pool page ahead before now feed s is in
      let so_far : Feeds s.feed.pass.1 feed.pass.1 = subst (λ (f : Feed). Feeds s.feed.pass.1 f.pass.1) here s.feeds in
      record {
        some_rows = s.some_rows;
        few_rows = s.few_rows;
        few_pages = s.few_pages;
        feed = s.feed;
        left = next;
        had = s.had;
        has = then_;
        idle = idle;
        source = source ∙ (ap (λ (f : Feed). f.source) (sym here) ∙ s.source);
        told = told ∙ s.told;
        version = version ∙ s.version;
        stated = stated ∙ s.stated;
        later = none_fell_on _ _ _ s.later later;
        feeds = feeds_on _ _ _ so_far feeds;
        turns = fetched_more page ahead (list before.source) (moment (counts before.source) s.feed.pass.1) (moment (counts now.source) feed.pass.1)
            (record { answer = turned; next = moment (counts after.source) next.pass.1 })
            (subst (λ (f : Feed). IsFetched page ahead (list before.source) (moment (counts before.source) s.feed.pass.1) (moment (counts now.source) f.pass.1)) here s.turns)
            (record {
              brings = subst (λ l. Brings page ahead l (counts now.source) (counts after.source) feed.pass.1 next.pass.1 turned) s.told brings;
              feeds = feeds;
              later = later;
            });
        called = calls_more page ahead (point (calls before.source) s.feed.pass.1) (point (calls now.source) feed.pass.1)
            (record { answer = turned; next = point (calls after.source) next.pass.1 })
            (subst (λ (f : Feed). MadeItsCalls page ahead (point (calls before.source) s.feed.pass.1) (point (calls now.source) f.pass.1)) here s.called) made;
        moved = counted_more (at_hand before.source) (states before.source) (counts before.source) (counts now.source) (counts after.source)
            s.feed.pass.1.seen feed.pass.1.seen next.pass.1.seen s.later later
            (subst (λ (f : Feed). HasMovesOf (at_hand before.source) (states before.source) (counts before.source) (counts now.source) s.feed.pass.1.seen f.pass.1.seen) here s.moved)
            (turn_moves (λ had other. IsCountedMove (at_hand before.source) (states before.source) (counts now.source) (counts after.source) had other)
            page ahead (list now.source) (counts now.source) (counts after.source) feed.pass.1 next.pass.1 turned brings
            (counted_as (at_hand before.source) (states before.source) page ahead (list now.source) (counts now.source) (counts after.source) feed.pass.1 next.pass.1 turned brings
            (subst (λ v. IsMovedAs v (states before.source) turned) s.version (subst (λ t. IsMovedAs (at_hand now.source) t turned) s.stated said))));
        meters = subst (λ (f : Fetched). Meters page ahead f (counts before.source) (counts after.source) s.feed.pass.1 next.pass.1) (sym fetched)
            (meter_more page ahead now.fetched turned (list now.source) (counts before.source) (counts now.source) (counts after.source)
            s.feed.pass.1 feed.pass.1 next.pass.1 s.some_rows
            (subst (λ (f : Feed). Meters page ahead now.fetched (counts before.source) (counts now.source) s.feed.pass.1 f.pass.1) here s.meters)
            feeds later brings);
      }
