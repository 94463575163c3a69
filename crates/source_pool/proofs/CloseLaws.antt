-- The closing states, from the last source to the first.
use Rattle.std.proofs.Common.{◌≡◌, ◌<◌, ◌≤◌, ◌+◌, ◌-◌, ◌||◌, inl, inr, ℕ, Bool, true, List, [], ◌∷◌, ◌++◌, length, take, reverse, Contains, refl, sym, ap, subst, ◌∙◌, arith, le_refl}
use Rattle.std.proofs.lemmas.List.{length_push, length-reverse, get_or-reverse, take_all}
use Rattle.std.proofs.lemmas.List.Elements.{Contains-append_cases}
use Rattle.std.proofs.lemmas.Bool.Decides.{eqb_tells}
use Rattle.atomic_table.specs.Seated.{TableId}
use Rattle.turn_lock.specs.declared.known.Known.{Known}
use Rattle.turn_lock.specs.Known.{KnowsOf, Follows, all_parts, writers, joined}
use Rattle.turn_lock.proofs.Growth.{begins_on, at_most_on}
use Rattle.source_state.specs.declared.entry.LogEntry.{LogEntry}
use Rattle.source_state.specs.State.{State, opened, state_at, facts_of, IsSound}
use Rattle.source_pool.specs.declared.hold.Hold.{Hold}
use Rattle.source_pool.specs.Holds.{no_lock, no_hold, IsFree}
use Rattle.source_pool.specs.Passes.{Feed, no_feed, lock_at, hold_at, feed_at, IsPassOf, AreFeedersOf}
use Rattle.source_pool.specs.Closed.{HaveAll, IsClosed, AreClosed, AreClosedBack}
use Rattle.source_pool.proofs.Fronts.{read_before, read_last, front_before, front_last, front_within, fronts_size}

-- the writer's own stays
writers_own : {X : Type 0} (a b : Bool) (x y z : X) → a ≡ true → writers a b x y z ≡ x
writers_own a b x y z e = subst (λ w. writers w b x y z ≡ x) (sym e) refl

or_true : (a b : Bool) → a ≡ true → (a || b) ≡ true
or_true a b e = subst (λ w. (w || b) ≡ true) (sym e) refl

-- the closing state, after the pass was joined to the writer's
pub closed_one : (feeder pass both : Known LogEntry) (state : State) → both ≡ joined feeder pass → feeder.writer ≡ true → feeder.parts + pass.parts ≡ all_parts
    → Follows feeder both → Follows pass both → KnowsOf (facts_of state) both → IsSound state → IsClosed feeder pass state
closed_one feeder pass both state is writer parts mine theirs agrees sound =
    let all = agrees.writer (ap (λ (k : Known LogEntry). k.writer) is ∙ or_true feeder.writer pass.writer writer) in
    let whole = agrees.whole (ap (λ (k : Known LogEntry). k.parts) is ∙ parts) in
    record {
      sound = sound;
      name = agrees.name ∙ ap (λ (k : Known LogEntry). k.name) is;
      log = sym all.seen ∙ (ap (λ (k : Known LogEntry). k.seen) is ∙ writers_own feeder.writer pass.writer _ _ _ writer);
      tally = sym all.tally ∙ (ap (λ (k : Known LogEntry). k.tally) is ∙ writers_own feeder.writer pass.writer _ _ _ writer);
      want = whole.mark ∙ ap (λ (k : Known LogEntry). k.high) is;
      asks = whole.asks ∙ ap (λ (k : Known LogEntry). k.asked) is;
      mine = λ object c. Contains-append_cases feeder.mine pass.mine object (subst (λ (k : Known LogEntry). Contains k.mine object) is (whole.mine object c));
      seen = begins_on theirs.seen agrees.past.seen;
      met = begins_on theirs.met agrees.past.met;
      fails = at_most_on theirs.tally agrees.past.tally;
      sight = subst (λ n. n ≤ state.want) (ap (λ (k : Known LogEntry). k.sight.mark) is) agrees.sight;
      asked = begins_on mine.met agrees.past.met;
    }

-- the sources from a place on are closed, and those before it are left
pub record ClosedFrom (place : ℕ) (pool : List TableId) (holds : List Hold) (feeds : List Feed) (some_locks : List TableId) (some_holds : List Hold) (some_feeds : List Feed) (states : List State) : Type 0 where
  pub locks : some_locks ≡ take place pool
  pub passes : some_holds ≡ take place holds
  pub feeders : some_feeds ≡ take place feeds
  pub size : length states + place ≡ length pool
  pub each : (source : ℕ) → place ≤ source → source < length pool
      → IsClosed (feed_at feeds source).pass.1 (hold_at holds source).pass.1 (state_at states (length pool - 1 - source))

pub closed_more : (pool : List TableId) (holds : List Hold) (feeds : List Feed) (locks : List TableId) (table : TableId) (passes : List Hold) (hold : Hold)
    (feeders : List Feed) (feed : Feed) (states : List State) (state : State)
    → ClosedFrom (length (locks ++ table ∷ [])) pool holds feeds (locks ++ table ∷ []) (passes ++ hold ∷ []) (feeders ++ feed ∷ []) states
    → length passes ≡ length locks → length feeders ≡ length locks → IsClosed feed.pass.1 hold.pass.1 state
    → ClosedFrom (length locks) pool holds feeds locks passes feeders (states ++ state ∷ [])
closed_more pool holds feeds locks table passes hold feeders feed states state h psize fsize one =
    let place : length locks + 1 ≡ length (locks ++ table ∷ []) = sym (length_push locks table) in
    let pplace : length passes + 1 ≡ length (locks ++ table ∷ []) = ap (λ n. n + 1) psize ∙ place in
    let fplace : length feeders + 1 ≡ length (locks ++ table ∷ []) = ap (λ n. n + 1) fsize ∙ place in
    let mine : hold ≡ hold_at holds (length locks) = front_last passes hold no_hold _ holds pplace h.passes ∙ ap (hold_at holds) psize in
    let his : feed ≡ feed_at feeds (length locks) = front_last feeders feed no_feed _ feeds fplace h.feeders ∙ ap (feed_at feeds) fsize in
    let size = h.size in
    record {
      locks = front_before locks table _ pool place h.locks;
      passes = front_before passes hold _ holds pplace h.passes ∙ ap (λ n. take n holds) psize;
      feeders = front_before feeders feed _ feeds fplace h.feeders ∙ ap (λ n. take n feeds) fsize;
      size = let more = length_push states state in omega (arith, place, size, more);
      each = λ source ge lt. elim (eqb_tells source (length locks)) [
        | inl same ↦
            let last : length pool - 1 - source ≡ length states = let e = same.1 in omega (arith, place, size, e) in
            subst (IsClosed (feed_at feeds source).pass.1 (hold_at holds source).pass.1) (sym (read_last states state (opened 0 0) (length pool - 1 - source) last))
            (subst (λ s. IsClosed (feed_at feeds s).pass.1 (hold_at holds s).pass.1 state) (sym same.1)
            (subst (λ (f : Feed). IsClosed f.pass.1 (hold_at holds (length locks)).pass.1 state) his (subst (λ (p : Hold). IsClosed feed.pass.1 p.pass.1 state) mine one)))
        | inr apart ↦
            let differ : source ≡ length locks → ⊥ = apart.1 in
            subst (IsClosed (feed_at feeds source).pass.1 (hold_at holds source).pass.1) (sym (read_before states state (opened 0 0) (length pool - 1 - source) (omega (arith, place, size))))
            (h.each source (omega (arith, place)) lt)
      ];
    }

-- in the order of the sources
pub closed_forth : (pool : List TableId) (holds : List Hold) (feeds : List Feed) (states : List State) → AreClosedBack pool holds feeds states
    → AreClosed pool holds feeds (reverse states)
closed_forth pool holds feeds states back = record {
  size = length-reverse states ∙ back.size;
  each = λ source lt.
      let within : source < length states = subst (λ n. source < n) (sym back.size) lt in
      let there : state_at (reverse states) source ≡ state_at states (length pool - 1 - source) =
      get_or-reverse states source (opened 0 0) within ∙ ap (λ n. state_at states (n - 1 - source)) back.size in
      subst (IsClosed (feed_at feeds source).pass.1 (hold_at holds source).pass.1) (sym there) (back.each source lt);
}

-- before any source is closed, and when all are
pub closed_none : (pool : List TableId) (holds : List Hold) (feeds : List Feed) → length holds ≡ length pool → length feeds ≡ length pool
    → ClosedFrom (length pool) pool holds feeds pool holds feeds []
closed_none pool holds feeds hsize fsize = record {
  locks = sym (take_all (length pool) pool (le_refl (length pool)));
  passes = sym (take_all (length pool) holds (omega (arith, hsize)));
  feeders = sym (take_all (length pool) feeds (omega (arith, fsize)));
  size = omega arith;
  each = λ source ge lt. absurd (omega arith);
}

pub closed_all : (pool : List TableId) (holds : List Hold) (feeds : List Feed) (some_locks : List TableId) (some_holds : List Hold) (some_feeds : List Feed)
    (states : List State)
    → ClosedFrom 0 pool holds feeds some_locks some_holds some_feeds states → AreClosedBack pool holds feeds states
closed_all pool holds feeds some_locks some_holds some_feeds states h = record {
  size = let size = h.size in omega (arith, size);
  each = λ source lt. h.each source (omega arith) lt;
}

-- what pops of all three give
pub record LastOnes (table : TableId) (hold : Hold) (feed : Feed) : Type 0 where
  pub pass : IsFree table hold.pass
  pub feeder : IsFree table feed.pass
  pub whole : hold.pass.1.parts + feed.pass.1.parts ≡ all_parts

pub closed_as : (pool : List TableId) (holds : List Hold) (feeds : List Feed) (locks more_locks : List TableId) (passes more_passes : List Hold)
    (feeders more_feeders : List Feed) (states : List State)
    → more_locks ≡ locks → more_passes ≡ passes → more_feeders ≡ feeders → ClosedFrom (length more_locks) pool holds feeds more_locks more_passes more_feeders states
    → ClosedFrom (length locks) pool holds feeds locks passes feeders states
closed_as pool holds feeds locks more_locks passes more_passes feeders more_feeders states a b d h =
    subst (λ x. ClosedFrom (length locks) pool holds feeds locks passes x states) d
    (subst (λ x. ClosedFrom (length locks) pool holds feeds locks x more_feeders states) b
    (subst (λ x. ClosedFrom (length x) pool holds feeds x more_passes more_feeders states) a h))

shorter : {X Y : Type 0} (xs : List X) (x : X) (ys : List Y) (y : Y) → length (xs ++ x ∷ []) ≡ length (ys ++ y ∷ []) → length xs ≡ length ys
shorter xs x ys y e = omega (arith, e, length_push xs x, length_push ys y)

pub passes_size : (pool : List TableId) (holds : List Hold) (feeds : List Feed) (locks : List TableId) (table : TableId) (passes : List Hold) (hold : Hold)
    (some_feeds : List Feed) (states : List State)
    → length holds ≡ length pool → ClosedFrom (length (locks ++ table ∷ [])) pool holds feeds (locks ++ table ∷ []) (passes ++ hold ∷ []) some_feeds states → length passes ≡ length locks
passes_size pool holds feeds locks table passes hold some_feeds states size h =
    shorter passes hold locks table (fronts_size (passes ++ hold ∷ []) holds (locks ++ table ∷ []) pool (length (locks ++ table ∷ [])) h.passes h.locks size)

pub feeders_size : (pool : List TableId) (holds : List Hold) (feeds : List Feed) (locks : List TableId) (table : TableId) (some_holds : List Hold)
    (feeders : List Feed) (feed : Feed) (states : List State)
    → length feeds ≡ length pool → ClosedFrom (length (locks ++ table ∷ [])) pool holds feeds (locks ++ table ∷ []) some_holds (feeders ++ feed ∷ []) states → length feeders ≡ length locks
feeders_size pool holds feeds locks table some_holds feeders feed states size h =
    shorter feeders feed locks table (fronts_size (feeders ++ feed ∷ []) feeds (locks ++ table ∷ []) pool (length (locks ++ table ∷ [])) h.feeders h.locks size)

pub last_ones : (pool : List TableId) (holds : List Hold) (feeds : List Feed) (locks : List TableId) (table : TableId) (passes : List Hold) (hold : Hold)
    (feeders : List Feed) (feed : Feed) (states : List State)
    → IsPassOf pool holds → AreFeedersOf pool feeds → HaveAll pool holds feeds
    → ClosedFrom (length (locks ++ table ∷ [])) pool holds feeds (locks ++ table ∷ []) (passes ++ hold ∷ []) (feeders ++ feed ∷ []) states → LastOnes table hold feed
last_ones pool holds feeds locks table passes hold feeders feed states own fed all h =
    let psize = passes_size pool holds feeds locks table passes hold (feeders ++ feed ∷ []) states own.size h in
    let fsize = feeders_size pool holds feeds locks table (passes ++ hold ∷ []) feeders feed states fed.size h in
    let place : length locks + 1 ≡ length (locks ++ table ∷ []) = sym (length_push locks table) in
    let pplace : length passes + 1 ≡ length (locks ++ table ∷ []) = ap (λ n. n + 1) psize ∙ place in
    let fplace : length feeders + 1 ≡ length (locks ++ table ∷ []) = ap (λ n. n + 1) fsize ∙ place in
    let lock : table ≡ lock_at pool (length locks) = front_last locks table no_lock (length (locks ++ table ∷ [])) pool place h.locks in
    let mine : hold ≡ hold_at holds (length locks) = front_last passes hold no_hold (length (locks ++ table ∷ [])) holds pplace h.passes ∙ ap (hold_at holds) psize in
    let his : feed ≡ feed_at feeds (length locks) = front_last feeders feed no_feed (length (locks ++ table ∷ [])) feeds fplace h.feeders ∙ ap (feed_at feeds) fsize in
    let within : length locks < length pool = front_within locks table (length (locks ++ table ∷ [])) pool h.locks in
    record {
      pass = subst (λ t. IsFree t hold.pass) (sym lock) (subst (λ (one : Hold). IsFree (lock_at pool (length locks)) one.pass) (sym mine) (own.each (length locks) within));
      feeder = subst (λ t. IsFree t feed.pass) (sym lock) (subst (λ (one : Feed). IsFree (lock_at pool (length locks)) one.pass) (sym his) (fed.each (length locks) within));
      whole = ap (λ (one : Hold). one.pass.1.parts + feed.pass.1.parts) mine ∙ (ap (λ (one : Feed). (hold_at holds (length locks)).pass.1.parts + one.pass.1.parts) his ∙ all.parts (length locks) within);
    }
