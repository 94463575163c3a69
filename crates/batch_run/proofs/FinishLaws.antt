-- From what a worker pool did to a batch.
use Rattle.std.proofs.Common.{◌≡◌, ◌≤◌, ◌<◌, ◌+◌, ◌-◌, ◌*◌, ◌^◌, ◌⊎◌, inl, inr, ℕ, suc, min, max, Bool, true, false, nat_lt, Option, Some, None, List, [], ◌∷◌, ◌++◌, length, map, All, Contains, IfSome, count_by, slice_index, slice_index_or, unwrap_or, refl, sym, ap, subst, ◌∙◌, arith}
use Rattle.std.specs.List.{AllZip, flat_map, sum_by}
use Rattle.std.specs.Prelude.{if◌then◌else◌}
use Rattle.std.proofs.lemmas.Bool.Decides.{eqb_tells}
use Rattle.std.proofs.lemmas.Grind.{flat_map-append}
use Rattle.std.proofs.lemmas.List.Folds.{flat_map-map}
use Rattle.std.proofs.lemmas.List.{length-map}
use Rattle.std.proofs.lemmas.List.Elements.{All-nil, All-cons, All-append}
use Rattle.std.proofs.lemmas.List.Sums.{sum_by-le-sum_by, count_by-le-length}
use Rattle.std.proofs.lemmas.Slice.Zip.{AllZip-long}
use Rattle.topk_theory.proofs.AgreementLists.{contains_nil, contains_here, contains_there, contains_cases, contains_map, contains_map_from, member_of_all}
use Rattle.ranked_list.specs.declared.row.Row.{Row}
use Rattle.atomic_table.specs.Seated.{TableId}
use Rattle.turn_lock.specs.declared.facts.Tally.{Tally}
use Rattle.turn_lock.specs.declared.known.Known.{Known}
use Rattle.turn_lock.specs.Known.{Follows}
use Rattle.tickets.specs.declared.draws.Draws.{Draws}
use Rattle.tickets.specs.Draws.{all_parts as all_draws, times}
use Rattle.tickets.specs.Places.{standing}
use Rattle.tickets.specs.Rule.{drawn_before}
use Rattle.tickets.specs.declared.placing.Done.{Done}
use Rattle.source_api.specs.declared.counts.Counts.{Counts}
use Rattle.source_api.specs.Calls.{Call}
use Rattle.source_state.specs.declared.entry.LogEntry.{LogEntry}
use Rattle.source_api.specs.declared.source.FailKind.{FailKind}
use Rattle.source_api.specs.declared.source.FailKind.TheVariants as kind
use Rattle.source_state.specs.Log.{settled_in}
use Rattle.source_state.proofs.Lists.{none_not_some}
use Rattle.source_state.specs.State.{State, IsSound, last_count, state_at}
use Rattle.source_state.specs.Looking.{reach_of}
use Rattle.source_pool.specs.declared.hold.Hold.{Hold}
use Rattle.source_pool.specs.Passes.{Feed, lock_at, hold_at, feed_at}
use Rattle.source_pool.specs.Sharing.{first_feed}
use Rattle.source_pool.specs.Closed.{HaveAll, IsClosed, AreClosed}
use Rattle.query_core.specs.declared.ready.Ready.{Ready}
use Rattle.query_run.specs.declared.ended.Ended.{Ended}
use Rattle.query_run.specs.declared.running_query.RunningQuery.{RunningQuery}
use Rattle.query_run.specs.Inquiries.{source_needed}
use Rattle.query_run.specs.Kept.{IsServed}
use Rattle.query_run.specs.Made.{IsOf}
use Rattle.query_run.specs.Endings.{EndsAs, IsRight}
use Rattle.fetcher.specs.Causes.{HasGiven}
use Rattle.fetcher.specs.Chaining.{moment, IsFetched}
use Rattle.fetcher.specs.Telling.{TellsOf}
use Rattle.fetcher.specs.Moving.{TellsMove}
use Rattle.fetcher.specs.Metering.{RoseBy, WentUp}
use Rattle.fetcher.proofs.ToldLaws.{fetched_from_nothing}
use Rattle.fetcher.specs.Called.{WasCalled}
use Rattle.fetcher.proofs.ClosedLaws.{called_for}
use Rattle.fetcher.proofs.CalledLaws.{was_called}
use Rattle.topk_base.specs.declared.settings.Settings.{Settings}
use Rattle.topk_base.specs.Ranges.{AreSettings}
use Rattle.batch_result.specs.Numbered.{told_at, version_at, counts_at, calls_at}
use Rattle.batch_result.specs.declared.batch.Use.{Use}
use Rattle.batch_run.specs.declared.work.Worker.{Worker}
use Rattle.batch_run.specs.declared.worker_pool.WorkerPool.{WorkerPool}
use Rattle.batch_result.specs.Using.{is_refused_for, IsWantedBy, IsNamedBy, all_grades_on, IsUsed, HasCounted}
use Rattle.batch_result.specs.Refusing.{IsRefusedByTurns}
use Rattle.batch_result.specs.Batches.{batch_of, use_at, IsClosing, IsSpared, IsBatch}
use Rattle.batch_result.specs.Cut.{IsReadBy, IsOfBegun, begun, IsCut}
use Rattle.batch_run.specs.Working.{End, IsEndOf, IsStood, Run, IsRunOf, ended_at, ended_of, places_of, stood_of, HasWorked}
use Rattle.batch_run.specs.Slots.{SlotState, slot_at}
use Rattle.batch_run.specs.WorkerPools.{IsBase, IsFirst, HasLeft, HasFetched, Rejoins}
use Rattle.batch_run.specs.Finishing.{UsedOf, slots_run, CanFinish}
use Rattle.batch_result.proofs.AccountLaws.{asks_on}
use Rattle.batch_result.proofs.Places.{map_at, stands_at}
use Rattle.batch_run.proofs.AtPlaces.{with_all, all_in, has_in, times_in, few_in, sum_by_map, sum_ones, rows, zip_rows, rows_has, paired, at_place, stands_of, stands_there, rows_count}
use Rattle.batch_result.proofs.TruthLaws.{told_honest}
use Rattle.batch_result.proofs.ShutLaws.{Shut, fetched_shut}
use Rattle.batch_result.proofs.LaterLaws.{begins_on, at_most_on, IsAhead, ahead_of, all_later, served_later}
use Rattle.batch_run.proofs.JoinLaws.{passes}
use Rattle.batch_run.proofs.Zips.{zip_map, zip_part, all_seconds, both_parts}

-- the pass of a worker among the passes
pass_at : (workers : List Worker) (i : ℕ) (d : List Hold) (e : Worker) → i < length workers
    → slice_index_or (passes workers) i d ≡ (slice_index_or workers i e).pass
pass_at workers i d e l = map_at (λ (w : Worker). w.pass) workers i e d l

-- an empty log tells of no move
none_told : (had other : ℕ) → TellsMove [] had other → ⊥
none_told had other (inl e) = none_not_some e
none_told had other (inr at) = none_not_some at.1

-- the parts of a lock come together
pub have_all : (pool : List TableId) (counts : List ℕ) (workers : List Worker) (base pass : List Hold) (feeds : List Feed)
    → IsBase pool counts (length workers) base → Rejoins pool (passes workers) base pass
    → ((i : ℕ) (d : Worker) → i < length workers → (source : ℕ) → source < length counts → (hold_at (slice_index_or workers i d).pass source).pass.1.parts ≡ 1)
    → ((source : ℕ) → source < length counts → (feed_at feeds source).pass.1.parts ≡ 1) → HaveAll pool pass feeds
have_all pool counts workers base pass feeds is rejoins ones fed = record {
  parts = λ source l.
      let there : source < length counts = let size = is.size in omega (arith, l, size) in
      let parts = rejoins.parts source l in
      let mine = is.parts source there in
      let his = fed source there in
      let sum : sum_by (λ (p : List Hold). (hold_at p source).pass.1.parts) (passes workers) ≡ length (passes workers) =
      sum_ones (λ (p : List Hold). (hold_at p source).pass.1.parts) (passes workers)
      (λ i d m.
      let within : i < length workers = subst (λ n. i < n) (length-map workers (λ (w : Worker). w.pass)) m in
      let e = (stands_at workers i within).item in
      ap (λ (p : List Hold). (hold_at p source).pass.1.parts) (pass_at workers i d e within) ∙ ones i e within source there) in
      let long = length-map workers (λ (w : Worker). w.pass) in
      omega (arith, parts, mine, his, sum, long);
}

-- the parts of the tickets come together
pub all_drawn : (pool : List TableId) (tickets : TableId) (counts : List ℕ) (readies : List Ready) (workers : List Worker) (base : TableId × Draws) (draws : Draws)
    → IsFirst tickets (length workers) base → ((i : ℕ) (d : Worker) → i < length workers → HasLeft pool tickets counts readies (slice_index_or workers i d))
    → draws.parts ≡ base.1.parts + sum_by (λ (w : Worker). w.draws.1.parts) workers → draws.parts ≡ all_draws
all_drawn pool tickets counts readies workers base draws first left parts =
    let given = first.parts in
    let ones = sum_ones (λ (w : Worker). w.draws.1.parts) workers (λ i d l. (left i d l).at_work.draws.1) in
    omega (arith, given, ones, parts)

-- the closing state of a source
told_closing : (page ahead : ℕ) (told : Option (List Row)) (before after : Counts) (first last : Known LogEntry) → first.seen ≡ []
    → IsFetched page ahead told (moment before first) (moment after last) → IfSome told (λ list. TellsOf list last.seen)
told_closing page ahead None before after first last none turns = tt
told_closing page ahead (Some list) before after first last none turns =
    fetched_from_nothing page ahead list (moment before first) (moment after last) turns none

told_as : (told : Option (List Row)) (log seen : List LogEntry) → log ≡ seen → IfSome told (λ list. TellsOf list seen) → IfSome told (λ list. TellsOf list log)
told_as told log seen e h = subst (λ l. IfSome told (λ list. TellsOf list l)) (sym e) h

pub record Closes (pool : List TableId) (settings : Settings) (source count : ℕ) (before after : SlotState) (feed : Feed) (pass : Known LogEntry) (s : State) : Type 0 where
  pub fetched : HasFetched pool settings source count before after feed
  pub closed : IsClosed feed.pass.1 pass s

closing_is : (pool : List TableId) (settings : Settings) (source count : ℕ) (before after : SlotState) (feed : Feed) (pass : Known LogEntry) (s : State)
    → Closes pool settings source count before after feed pass s → IsClosing source count before.told s
closing_is pool settings source count before after feed pass s h =
    let name : (s.list, s.count) ≡ (source, count) = h.closed.name ∙ h.fetched.feeds.name in
    record {
      sound = h.closed.sound;
      list = ap (λ (p : ℕ × ℕ). p.0) name;
      count = ap (λ (p : ℕ × ℕ). p.1) name;
      tells = told_as before.told s.log feed.pass.1.seen h.closed.log
          (told_closing settings.page settings.ahead before.told before.counts after.counts (first_feed (lock_at pool source) source count).pass.1 feed.pass.1 refl h.fetched.turns);
      honest = told_honest settings.page settings.ahead before.told before.counts after.counts (first_feed (lock_at pool source) source count).pass.1 feed.pass.1 s
          refl h.closed.log h.closed.asked (ap (λ (p : ℕ × ℕ). p.1) name) h.fetched.turns;
    }

closing_shut : (pool : List TableId) (settings : Settings) (source count : ℕ) (before after : SlotState) (feed : Feed) (pass : Known LogEntry) (s : State)
    → Closes pool settings source count before after feed pass s → Shut s.log
closing_shut pool settings source count before after feed pass s h =
    subst Shut (sym h.closed.log)
    (fetched_shut settings.page settings.ahead before.told (moment before.counts (first_feed (lock_at pool source) source count).pass.1) (moment after.counts feed.pass.1) h.fetched.turns tt)

-- what came of a source, in the closing state
came_closed : (feeder pass : Known LogEntry) (s : State) (rows used : ℕ) → IsClosed feeder pass s → used ≡ rows → HasGiven rows feeder.name.1 feeder.seen
    → HasGiven used s.count s.log
came_closed feeder pass s rows used closed same came =
    let count : feeder.name.1 ≡ s.count = ap (λ (p : ℕ × ℕ). p.1) (sym closed.name) in
    subst (HasGiven used s.count) (sym closed.log) (subst (λ n. HasGiven used n feeder.seen) count (subst (λ n. HasGiven n feeder.name.1 feeder.seen) (sym same) came))

-- what a worker's pass knows of a source, to the closing state
ahead_at : (pool : List TableId) (settings : Settings) (source count : ℕ) (before after : SlotState) (feed : Feed) (pass mine : Known LogEntry) (s : State)
    → Closes pool settings source count before after feed pass s → Follows mine pass → mine.name ≡ (source, count) → IsAhead mine s
ahead_at pool settings source count before after feed pass mine s h follows name = record {
  name = h.closed.name ∙ (h.fetched.feeds.name ∙ sym name);
  seen = begins_on mine.seen pass.seen s.log follows.seen h.closed.seen;
  met = begins_on mine.met pass.met s.asks follows.met h.closed.met;
  tally = at_most_on mine.tally pass.tally s.tally follows.tally h.closed.fails;
}

-- a query that ended, over the closing states
pub record IsEnded (states : List State) (ready : Ready) (end : End) : Type 0 where
  pub of : IsOf ready end.0
  pub ends : EndsAs end.0 end.1
  pub right : IsRight ready end.1
  pub spared : IsSpared end.0
  pub own : IsRefusedByTurns states end.0
  pub served : IsServed states end.0

ended_at_last : (states : List State) (holds : List Hold) (ready : Ready) (end : End) → length states ≡ length holds
    → ((source : ℕ) → source < length holds → IsAhead (hold_at holds source).pass.1 (state_at states source))
    → ((source : ℕ) → source < length holds → IsSound (state_at states source))
    → ((source : ℕ) → source < length holds → Shut (state_at states source).log)
    → IsEndOf holds ready end → IsEnded states ready end
ended_at_last states holds ready end many ahead sound shut h =
    let long : length holds ≡ length h.then_held = h.since.size in
    let saw : (source : ℕ) → source < length holds → IsAhead (hold_at h.then_held source).pass.1 (state_at states source)
    = λ source l.
    let more = h.since.each source in
    ahead_of (hold_at h.then_held source).pass.1 (hold_at holds source).pass.1 (state_at states source) more.follows more.name (ahead source l) in
    record {
      of = h.of;
      ends = h.ends;
      right = h.right;
      spared = h.spared;
      own = record {
        before = h.first_held;
        after = h.then_held;
        why = h.why;
        later = h.later;
        seen = λ l. (saw (source_needed end.0) (omega (arith, l, many))).seen;
        tally = λ l. (saw (source_needed end.0) (omega (arith, l, many))).tally;
      };
      served = served_later h.then_held states end.0
          (all_later h.then_held states (many ∙ long)
          (λ source l. saw source (omega (arith, l, long)))
          (λ source l. sound source (omega (arith, l, long))) (λ source l. shut source (omega (arith, l, long))))
          h.served;
    }

-- a query that began, over the closing states
pub record IsOver (states : List State) (ready : Ready) (q : RunningQuery) : Type 0 where
  pub of : IsOf ready q
  pub served : IsServed states q

abbrev OverIf : List State → Ready → Option RunningQuery → Type 0
OverIf states ready one = IfSome one (IsOver states ready)

over_at : (states : List State) (holds : List Hold) (ready : Ready) (q : RunningQuery) → length states ≡ length holds
    → ((source : ℕ) → source < length holds → IsAhead (hold_at holds source).pass.1 (state_at states source))
    → ((source : ℕ) → source < length holds → IsSound (state_at states source))
    → ((source : ℕ) → source < length holds → Shut (state_at states source).log)
    → IsStood holds ready q → IsOver states ready q
over_at states holds ready q many ahead sound shut h =
    let long : length holds ≡ length h.then_held = h.since.size in
    let saw : (source : ℕ) → source < length holds → IsAhead (hold_at h.then_held source).pass.1 (state_at states source)
    = λ source l.
    let more = h.since.each source in
    ahead_of (hold_at h.then_held source).pass.1 (hold_at holds source).pass.1 (state_at states source) more.follows more.name (ahead source l) in
    record {
      of = h.of;
      served = served_later h.then_held states q
          (all_later h.then_held states (many ∙ long)
          (λ source l. saw source (omega (arith, l, long)))
          (λ source l. sound source (omega (arith, l, long))) (λ source l. shut source (omega (arith, l, long))))
          h.served;
    }

over_of : (states : List State) (ready : Ready) (one : Option RunningQuery) → OverIf states ready one → IsOfBegun ready one
over_of states ready None h = tt
over_of states ready (Some q) h = h.of

over_served : (states : List State) (readies : List Ready) (stood : List (Option RunningQuery)) → AllZip (OverIf states) readies stood
    → All (IsServed states) (begun stood)
over_served states [] [] h = All-nil (IsServed states)
over_served states [] (one ∷ stood) h = absurd h
over_served states (ready ∷ readies) [] h = absurd h
over_served states (ready ∷ readies) (None ∷ stood) h = over_served states readies stood h.1
over_served states (ready ∷ readies) (Some q ∷ stood) h = All-cons (IsServed states) q (begun stood) h.0.served (over_served states readies stood h.1)

-- a run, over the closing states
pub record IsRunOver (states : List State) (readies : List Ready) (run : Run) : Type 0 where
  pub there : run.place < length readies
  pub over : (default : Ready) → IsOver states (slice_index_or readies run.place default) run.stood
  pub ended : (default : Ready) → IfSome run.ended (λ ended. IsEnded states (slice_index_or readies run.place default) (run.stood, ended))

ended_if : (states : List State) (holds : List Hold) (ready : Ready) (q : RunningQuery) (ended : Option Ended)
    → ((end : End) → IsEndOf holds ready end → IsEnded states ready end)
    → IfSome ended (λ (e : Ended). IsEndOf holds ready (q, e)) → IfSome ended (λ (e : Ended). IsEnded states ready (q, e))
ended_if states holds ready q None f h = tt
ended_if states holds ready q (Some e) f h = f (q, e) h

ended_so : (states : List State) (ready : Ready) (q : RunningQuery) (ended : Option Ended) (e : Ended) → ended ≡ Some e
    → IfSome ended (λ (e : Ended). IsEnded states ready (q, e)) → IsEnded states ready (q, e)
ended_so states ready q ended e same h = subst (λ (o : Option Ended). IfSome o (λ (e : Ended). IsEnded states ready (q, e))) same h

-- what is kept of how runs ended: of each list of them, and what stands at a place
kept_in : {Y : Type 0} (f : Y → List Run) (ys : List Y) → flat_map (λ (y : Y). ended_of (f y)) ys ≡ ended_of (flat_map f ys)
kept_in f [] = refl
kept_in f (y ∷ ys) =
    ap (λ l. ended_of (f y) ++ l) (kept_in f ys) ∙ sym (flat_map-append (λ (run : Run). ended_at run.place run.ended) (f y) (flat_map f ys))

-- what a worker keeps is of places that are there
ended_within : (n : ℕ) (runs : List Run) → All (λ (run : Run). run.place < n) runs → All (λ (done : Done Ended). done.place < n) (ended_of runs)
ended_within n [] h = All-nil (λ (done : Done Ended). done.place < n)
ended_within n (run ∷ runs) h =
    All-append (λ (done : Done Ended). done.place < n) (ended_at run.place run.ended) (ended_of runs) (first_within run.place run.ended (h 0 run (omega arith)))
    (ended_within n runs (λ i d l. h (suc i) d (omega (arith, l))))
  where
    first_within : (place : ℕ) (ended : Option Ended) → place < n → All (λ (done : Done Ended). done.place < n) (ended_at place ended)
    first_within place None l = All-nil (λ (done : Done Ended). done.place < n)
    first_within place (Some e) l = All-cons (λ (done : Done Ended). done.place < n) (record { place = place; answer = e }) [] l (All-nil (λ (done : Done Ended). done.place < n))

pub kept_within : (n : ℕ) (readies : List Ready) (worker : Worker) → length readies ≡ n → HasWorked readies worker
    → All (λ (done : Done Ended). done.place < n) worker.ended.items
kept_within n readies worker many h =
    subst (All (λ (done : Done Ended). done.place < n)) (sym h.ended)
    (ended_within n h.runs (λ i d l. let there = (h.each i d l).there in omega (arith, there, many)))

-- a number is drawn once at most
pub once_at_most : (next number : ℕ) → drawn_before next number ≤ 1
once_at_most next number = by_test (nat_lt number next)
  where
    by_test : (b : Bool) → (if b then 1 else 0) ≤ 1
    by_test true = omega arith
    by_test false = omega arith

once_by : (runs each drew all : ℕ) → runs ≡ each → each ≤ drew → drew ≡ all → all ≤ 1 → runs ≤ 1
once_by runs each drew all a b c d = omega (arith, a, b, c, d)

few_by : (those all limit product some : ℕ) → min all limit ≤ product → those ≤ all → those ≤ some → some ≤ limit → those ≤ product
few_by those all limit product some a b c d = omega (arith, a, b, c, d)

-- what stands at a place is how the run of this place ended
run_standing : (p : ℕ) (runs : List Run) (e : Ended) → standing p (ended_of runs) None ≡ Some e
    → (run : Run) × Contains runs run × (run.place ≡ p) × (run.ended ≡ Some e)
run_standing p [] e is = absurd (none_not_some is)
run_standing p (run ∷ runs) e is = elim (first_standing run.place run.ended runs e is) [
  | inl one ↦ (run, contains_here run runs, one.0, one.1)
  | inr more ↦
      let rest = run_standing p runs e more in
      (rest.0, contains_there run runs rest.0 rest.1, rest.2, rest.3)
]
  where
    first_standing : (place : ℕ) (ended : Option Ended) (runs : List Run) (e : Ended) → standing p (ended_at place ended ++ ended_of runs) None ≡ Some e
        → ((place ≡ p) × (ended ≡ Some e)) ⊎ (standing p (ended_of runs) None ≡ Some e)
    first_standing place None runs e is = inr is
    first_standing place (Some x) runs e is = elim (eqb_tells place p) [
      | inl t ↦ inl (t.1, sym (ap (λ b. if b then Some x else standing p (ended_of runs) None) t.0) ∙ is)
      | inr t ↦ inr (sym (ap (λ b. if b then Some x else standing p (ended_of runs) None) t.0) ∙ is)
    ]

-- where a query stood that began
begun_has : (stood : List (Option RunningQuery)) (q : RunningQuery) → Contains stood (Some q) → Contains (begun stood) q
begun_has [] q c = absurd (contains_nil (Some q) c)
begun_has (None ∷ stood) q c = elim (contains_cases None stood (Some q) c) [
  | inl bad ↦ absurd (none_not_some bad)
  | inr there ↦ begun_has stood q there
]
begun_has (Some p ∷ stood) q c = elim (contains_cases (Some p) stood (Some q) c) [
  | inl same ↦
      let is : p ≡ q = ap (λ (o : Option RunningQuery). unwrap_or o p) same in
      subst (Contains (p ∷ begun stood)) is (contains_here p (begun stood))
  | inr there ↦ contains_there p (begun stood) q (begun_has stood q there)
]

-- queries that ended all began
begun_ended : (ends : List End) → begun (map (λ (end : End). Some end.0) ends) ≡ map (λ (end : End). end.0) ends
begun_ended [] = refl
begun_ended (end ∷ ends) = ap (λ qs. end.0 ∷ qs) (begun_ended ends)

-- what worked together
pub record Situation (pool : List TableId) (tickets : TableId) (settings : Settings) (counts : List ℕ) (readies : List Ready) (before after : List SlotState) (workers : List Worker)
    (base pass : List Hold) (feeds : List Feed) (states : List State) (uses : List Use) : Type 0 where
  pub settings_are : AreSettings settings
  pub size : length workers ≡ settings.workers
  pub few : length readies < 2 ^ 32
  pub slots : (length before ≡ length counts) × (length after ≡ length counts)
  pub base_is : IsBase pool counts (length workers) base
  pub left : (i : ℕ) (d : Worker) → i < length workers → HasLeft pool tickets counts readies (slice_index_or workers i d)
  pub fetched : (source : ℕ) → source < length counts
      → HasFetched pool settings source (slice_index counts source) (slot_at before source) (slot_at after source) (feed_at feeds source)
  pub rejoins : Rejoins pool (passes workers) base pass
  pub closed : AreClosed pool pass feeds states
  pub uses_many : length uses ≡ length counts
  pub used : (source : ℕ) → source < length counts → UsedOf (state_at states source) (slot_at after source).fetched (use_at uses source)
  pub once : (number : ℕ) → sum_by (λ (w : Worker). times number w.draws.1.drawn) workers ≤ 1

-- a worker pool that has run, whose passes were joined and whose pool was closed
pub situated : (settings : Settings) (counts : List ℕ) (readies : List Ready) (before after : List SlotState) (worker_pool : WorkerPool) (pass : List Hold) (draws : Draws) (next : ℕ)
    (states : List State) (uses : List Use) → CanFinish settings counts readies before after worker_pool → Rejoins worker_pool.pool (passes worker_pool.workers.items) worker_pool.pass pass
    → ((number : ℕ) → times number draws.drawn ≡ times number worker_pool.draws.1.drawn + sum_by (λ (w : Worker). times number w.draws.1.drawn) worker_pool.workers.items)
    → ((number : ℕ) → times number draws.drawn ≡ drawn_before next number) → AreClosed worker_pool.pool pass worker_pool.feeders.items states → length uses ≡ length after
    → ((source : ℕ) → source < length after → UsedOf (state_at states source) (slot_at after source).fetched (use_at uses source))
    → Situation worker_pool.pool worker_pool.tickets settings counts readies before after worker_pool.workers.items worker_pool.pass pass worker_pool.feeders.items states uses
situated settings counts readies before after worker_pool pass draws next states uses can rejoins drawn closed shut many used = record {
  settings_are = can.settings_are;
  size = can.ran.size;
  few = can.few.0;
  slots = can.ran.slots;
  base_is = can.ran.base;
  left = can.ran.each;
  fetched = can.ran.fetched;
  rejoins = rejoins;
  closed = shut;
  uses_many = many ∙ can.ran.slots.1;
  used = λ source l. used source (let e = can.ran.slots.1 in omega (arith, l, e));
  once = λ number.
      once_by (sum_by (λ (w : Worker). times number w.draws.1.drawn) worker_pool.workers.items) (times number draws.drawn) (times number draws.drawn) (drawn_before next number)
      (sum_alone (times number draws.drawn) (times number worker_pool.draws.1.drawn) (sum_by (λ (w : Worker). times number w.draws.1.drawn) worker_pool.workers.items) (drawn number)
      (ap (times number) can.ran.first.none)) (omega arith) (closed number) (once_at_most next number);
}
  where
    sum_alone : (all old sum : ℕ) → all ≡ old + sum → old ≡ 0 → sum ≡ all
    sum_alone all old sum a b = omega (arith, a, b)

module _ (pool : List TableId) (tickets : TableId) (settings : Settings) (counts : List ℕ) (readies : List Ready) (before after : List SlotState) (workers : List Worker)
    (base pass : List Hold) (feeds : List Feed) (states : List State) (uses : List Use)
    (h : Situation pool tickets settings counts readies before after workers base pass feeds states uses) where
  there : (source : ℕ) → source < length counts → source < length pool
  there source l = let size = h.base_is.size in omega (arith, l, size)

  closes : (source : ℕ) → source < length counts
      → Closes pool settings source (slice_index counts source) (slot_at before source) (slot_at after source) (feed_at feeds source) (hold_at pass source).pass.1 (state_at states source)
  closes source l = record { fetched = h.fetched source l; closed = h.closed.each source (there source l) }

  closing : (source : ℕ) → source < length counts → IsClosing source (slice_index counts source) (slot_at before source).told (state_at states source)
  closing source l =
      closing_is pool settings source (slice_index counts source) (slot_at before source) (slot_at after source) (feed_at feeds source) (hold_at pass source).pass.1 (state_at states source) (closes source l)

  shut : (source : ℕ) → source < length counts → Shut (state_at states source).log
  shut source l =
      closing_shut pool settings source (slice_index counts source) (slot_at before source) (slot_at after source) (feed_at feeds source) (hold_at pass source).pass.1 (state_at states source) (closes source l)

  -- a worker that has worked, with what it left
  abbrev WorkerHandle : Type 0
  WorkerHandle = (w : Worker) × HasLeft pool tickets counts readies w

  all_handles : (handles : List WorkerHandle) × (map (λ (y : WorkerHandle). y.0) handles ≡ workers)
  all_handles = with_all (HasLeft pool tickets counts readies) workers h.left

  abbrev handles : List WorkerHandle
  handles = all_handles.0

  abbrev runs_by : WorkerHandle → List Run
  runs_by y = y.1.at_work.worked.runs

  -- all runs, worker by worker
  abbrev runs : List Run
  runs = flat_map runs_by handles

  pass_of : (y : WorkerHandle) → Contains handles y → Contains (passes workers) y.0.pass
  pass_of y c =
      contains_map (λ (w : Worker). w.pass) workers y.0 (subst (λ (ws : List Worker). Contains ws y.0) all_handles.1 (contains_map (λ (z : WorkerHandle). z.0) handles y c))

  handle_of : (other : List Hold) → Contains (passes workers) other → (y : WorkerHandle) × Contains handles y × (y.0.pass ≡ other)
  handle_of other c =
      let one = contains_map_from (λ (w : Worker). w.pass) workers other c in
      let y = contains_map_from (λ (z : WorkerHandle). z.0) handles one.0 (subst (λ (ws : List Worker). Contains ws one.0) (sym all_handles.1) one.1) in
      (y.0, y.1, ap (λ (w : Worker). w.pass) y.2 ∙ one.2)

  -- a worker's pass
  ahead : (y : WorkerHandle) → Contains handles y → (source : ℕ) → source < length counts → IsAhead (hold_at y.0.pass source).pass.1 (state_at states source)
  ahead y c source s =
      ahead_at pool settings source (slice_index counts source) (slot_at before source) (slot_at after source) (feed_at feeds source) (hold_at pass source).pass.1
      (hold_at y.0.pass source).pass.1 (state_at states source) (closes source s) (h.rejoins.knows y.0.pass (pass_of y c) source (there source s)) (y.1.name source s)

  -- a worker's runs, over the closing states
  run_over : (y : WorkerHandle) → Contains handles y → (run : Run) → IsRunOf y.0.pass readies run → IsRunOver states readies run
  run_over y c run is =
      let size = h.base_is.size in
      let own = y.1.at_work.own.size in
      let closed = h.closed.size in
      let long : length y.0.pass ≡ length counts = own ∙ size in
      record {
        there = is.there;
        over = λ d. over_at states y.0.pass (slice_index_or readies run.place d) run.stood (closed ∙ sym own)
            (λ source s. ahead y c source (subst (λ n. source < n) long s))
            (λ source s. (closing source (subst (λ n. source < n) long s)).sound)
            (λ source s. shut source (subst (λ n. source < n) long s)) (is.stood d);
        ended = λ d. ended_if states y.0.pass (slice_index_or readies run.place d) run.stood run.ended
            (λ end e. ended_at_last states y.0.pass (slice_index_or readies run.place d) end (closed ∙ sym own)
            (λ source s. ahead y c source (subst (λ n. source < n) long s))
            (λ source s. (closing source (subst (λ n. source < n) long s)).sound)
            (λ source s. shut source (subst (λ n. source < n) long s)) e)
            (is.ended d);
      }

  runs_over : All (IsRunOver states readies) runs
  runs_over = all_in runs_by (IsRunOver states readies) handles (λ y c i d l. run_over y c (slice_index_or (runs_by y) i d) (y.1.at_work.worked.each i d l))

  over_in : (run : Run) → Contains runs run → IsRunOver states readies run
  over_in run c = member_of_all (IsRunOver states readies) runs run runs_over c

  -- no place has two runs
  once : (number : ℕ) → times number (places_of runs) ≤ 1
  once number =
      let all = times_in runs_by (λ (run : Run). run.place) number handles in
      let each = sum_by-le-sum_by (λ (y : WorkerHandle). times number (places_of (runs_by y))) (λ (y : WorkerHandle). times number y.0.draws.1.drawn) handles (λ y. y.1.at_work.worked.drawn number) in
      let drew : sum_by (λ (y : WorkerHandle). times number y.0.draws.1.drawn) handles ≡ sum_by (λ (w : Worker). times number w.draws.1.drawn) workers =
      sym (sum_by_map (λ (y : WorkerHandle). y.0) (λ (w : Worker). times number w.draws.1.drawn) handles) ∙ ap (sum_by (λ (w : Worker). times number w.draws.1.drawn)) all_handles.1 in
      once_by (times number (places_of runs)) (sum_by (λ (y : WorkerHandle). times number (places_of (runs_by y))) handles) (sum_by (λ (y : WorkerHandle). times number y.0.draws.1.drawn) handles)
      (sum_by (λ (w : Worker). times number w.draws.1.drawn) workers) all each drew (h.once number)

  -- how the query of each place stood, if it began
  abbrev stood_at : ℕ → Option RunningQuery
  stood_at p = at_place (λ (run : Run). run.place) (λ (run : Run). run.stood) p runs

  abbrev stood : List (Option RunningQuery)
  stood = rows stood_at 0 readies

  stood_over : AllZip (OverIf states) readies stood
  stood_over = zip_rows (OverIf states) stood_at 0 readies (λ i d l. by_place i d (stood_at (0 + i)) refl)
    where
      by_place : (i : ℕ) (d : Ready) (one : Option RunningQuery) → stood_at (0 + i) ≡ one → OverIf states (slice_index_or readies i d) one
      by_place i d None e = tt
      by_place i d (Some q) e =
          let run = stands_of (λ (run : Run). run.place) (λ (run : Run). run.stood) (0 + i) runs q e in
          let here : run.0.place ≡ i = let same = run.2 in omega (arith, same) in
          subst (IsOver states (slice_index_or readies i d)) run.3 (subst (λ n. IsOver states (slice_index_or readies n d) run.0.stood) here ((over_in run.0 run.1).over d))

  abbrev those : List RunningQuery
  those = begun stood

  -- each run's query is one of those
  run_stands : (run : Run) → Contains runs run → stood_at run.place ≡ Some run.stood
  run_stands run c = stands_there (λ (run : Run). run.place) (λ (run : Run). run.stood) runs run (once run.place) c

  run_began : (run : Run) → Contains runs run → Contains those run.stood
  run_began run c =
      let has = rows_has stood_at 0 run.place readies (over_in run c).there in
      let here : 0 + run.place ≡ run.place = omega arith in
      begun_has stood run.stood (subst (Contains stood) (ap stood_at here ∙ run_stands run c) has)

  within : (y : WorkerHandle) → Contains handles y → (q : RunningQuery) → Contains (stood_of (runs_by y)) q → Contains those q
  within y c q is =
      let run = contains_map_from (λ (run : Run). run.stood) (runs_by y) q is in
      subst (Contains those) run.2 (run_began run.0 (has_in runs_by handles y run.0 c run.1))

  -- the counts and lists of the slots, as a run has them
  counts_before : (source : ℕ) → source < length counts → counts_at (map (λ (slot : SlotState). slot.counts) before) source ≡ (slot_at before source).counts
  counts_before source s = map_at (λ (slot : SlotState). slot.counts) before source _ _ (let e = h.slots.0 in omega (arith, s, e))

  counts_now : (source : ℕ) → source < length counts → counts_at (map (λ (slot : SlotState). slot.counts) after) source ≡ (slot_at after source).counts
  counts_now source s = map_at (λ (slot : SlotState). slot.counts) after source _ _ (let e = h.slots.1 in omega (arith, s, e))

  calls_before : (source : ℕ) → source < length counts → calls_at (map (λ (slot : SlotState). slot.calls) before) source ≡ (slot_at before source).calls
  calls_before source s = map_at (λ (slot : SlotState). slot.calls) before source _ _ (let e = h.slots.0 in omega (arith, s, e))

  calls_now : (source : ℕ) → source < length counts → calls_at (map (λ (slot : SlotState). slot.calls) after) source ≡ (slot_at after source).calls
  calls_now source s = map_at (λ (slot : SlotState). slot.calls) after source _ _ (let e = h.slots.1 in omega (arith, s, e))

  version_before : (source : ℕ) → source < length counts → version_at (map (λ (slot : SlotState). slot.version) before) source ≡ (slot_at before source).version
  version_before source s = map_at (λ (slot : SlotState). slot.version) before source _ _ (let e = h.slots.0 in omega (arith, s, e))

  told_before : (source : ℕ) → source < length counts → told_at (map (λ (slot : SlotState). slot.told) before) source ≡ (slot_at before source).told
  told_before source s = map_at (λ (slot : SlotState). slot.told) before source _ _ (let e = h.slots.0 in omega (arith, s, e))

  -- the greatest depth that was wanted
  wanted_by : (source depth : ℕ) (y : WorkerHandle) → Contains handles y → IsWantedBy (stood_of (runs_by y)) source depth → IsWantedBy those source depth
  wanted_by source depth y c (inl none) = inl none
  wanted_by source depth y c (inr one) = inr (one.0, within y c one.0 one.1, one.2)

  high_by : (source : ℕ) → source < length counts → IsWantedBy those source (hold_at pass source).pass.1.high
  high_by source s = elim (h.rejoins.high source (there source s)) [
    | inl same ↦ inl (same ∙ h.base_is.high source s)
    | inr one ↦
        let y = handle_of one.0 one.1 in
        subst (IsWantedBy those source) (sym (one.2 ∙ ap (λ (p : List Hold). (hold_at p source).pass.1.high) (sym y.2)))
        (wanted_by source (hold_at y.0.0.pass source).pass.1.high y.0 y.1 (y.0.1.at_work.worked.did source).rows)
  ]

  want_by : (source : ℕ) → source < length counts → IsWantedBy those source (state_at states source).want
  want_by source s =
      let closed = h.closed.each source (there source s) in
      let none : (feed_at feeds source).pass.1.high ≡ 0 = (h.fetched source s).feeds.high in
      let want : (state_at states source).want ≡ (hold_at pass source).pass.1.high = closed.want ∙ (ap (λ n. max n (hold_at pass source).pass.1.high) none ∙ omega arith) in
      subst (IsWantedBy those source) (sym want) (high_by source s)

  -- which objects were asked
  mine_by : (source object : ℕ) → source < length counts → Contains (hold_at pass source).pass.1.mine object → IsNamedBy those source object
  mine_by source object s c = elim (h.rejoins.mine source (there source s) object c) [
    | inl base ↦ absurd (contains_nil object (subst (λ os. Contains os object) (h.base_is.mine source s) base))
    | inr one ↦
        let y = handle_of one.0 one.1 in
        let named = (y.0.1.at_work.worked.did source).mine object (subst (λ (p : List Hold). Contains (hold_at p source).pass.1.mine object) (sym y.2) one.2) in
        (named.0, within y.0 y.1 named.0 named.1, named.2)
  ]

  named_by : (source object : ℕ) → source < length counts → Contains (state_at states source).asks object → IsNamedBy those source object
  named_by source object s c =
      let none : (feed_at feeds source).pass.1.mine ≡ [] = (h.fetched source s).feeds.mine in
      elim ((h.closed.each source (there source s)).mine object c) [
        | inl fed ↦ absurd (contains_nil object (subst (λ os. Contains os object) none fed))
        | inr passed ↦ mine_by source object s passed
      ]

  used_by : (source : ℕ) → source < length counts
      → IsUsed settings those source (state_at states source) (slot_at before source).counts (slot_at after source).counts (use_at uses source)
  used_by source s =
      let u = h.used source s in
      let metered = (h.fetched source s).metered in
      let called = called_for settings.page settings.ahead (slot_at after source).fetched (slot_at before source).counts (slot_at after source).counts (first_feed (lock_at pool source) source (slice_index counts source)).pass.1
      (feed_at feeds source).pass.1 (hold_at pass source).pass.1 (state_at states source) h.settings_are.some_rows metered (h.closed.each source (there source s)) in
      let rows = called.rows in
      let same = u.rows in
      record {
        want = u.want;
        wanted = subst (IsWantedBy those source) (sym u.want) (want_by source s);
        asks = u.asks;
        asked = λ tables agree. subst (λ n. n ≤ all_grades_on those tables source) (sym u.asks)
            (asks_on source those tables (state_at states source).asks agree (h.closed.each source (there source s)).sound.distinct (λ object c. named_by source object s c));
        named = λ object c. named_by source object s c;
        rows = subst (λ n. WentUp n (slot_at before source).counts.rows_given (slot_at after source).counts.rows_given) (sym u.rows) metered.rows;
        reach = subst (λ n. (use_at uses source).rows ≤ reach_of n settings.page settings.ahead (state_at states source).count) (sym u.want) (omega (arith, rows, same));
        grades = subst (λ n. WentUp n (slot_at before source).counts.grades_given (slot_at after source).counts.grades_given) (sym u.grades) metered.grades;
        once = subst (λ n. n ≤ (use_at uses source).asks) (sym u.grades) (subst (λ n. (slot_at after source).fetched.grades ≤ n) (sym u.asks) called.grades);
        settled =
            let grades : 0 + (slot_at after source).fetched.grades ≤ length (settled_in (feed_at feeds source).pass.1.seen) = metered.settled in
            let log : length (settled_in (state_at states source).log) ≡ length (settled_in (feed_at feeds source).pass.1.seen)
            = ap (λ log. length (settled_in log)) (h.closed.each source (there source s)).log in
            let given = u.grades in
            omega (arith, grades, log, given);
        comes = came_closed (feed_at feeds source).pass.1 (hold_at pass source).pass.1 (state_at states source) (slot_at after source).fetched.rows (use_at uses source).rows
            (h.closed.each source (there source s)) u.rows (metered.comes refl);
      }

  called_by : (source : ℕ) → source < length counts
      → WasCalled settings.page settings.ahead (slot_at before source).calls (slot_at after source).calls (state_at states source)
  called_by source s =
      was_called settings.page settings.ahead (slot_at before source).calls (slot_at after source).calls (first_feed (lock_at pool source) source (slice_index counts source)).pass.1
      (feed_at feeds source).pass.1 (hold_at pass source).pass.1 (state_at states source) h.settings_are.some_rows refl (h.fetched source s).called (h.closed.each source (there source s))

  reads : IsReadBy (slots_run settings counts readies before after) those states uses
  reads = record {
    many = h.closed.size ∙ h.base_is.size;
    closing = λ source s.
        subst (λ t. IsClosing source (slice_index counts source) t (state_at states source)) (sym (told_before source s)) (closing source s);
    served = over_served states readies stood stood_over;
    used = λ source s.
        subst (λ c. IsUsed settings those source (state_at states source) c (counts_at (map (λ (slot : SlotState). slot.counts) after) source) (use_at uses source)) (sym (counts_before source s))
        (subst (λ c. IsUsed settings those source (state_at states source) (slot_at before source).counts c (use_at uses source)) (sym (counts_now source s)) (used_by source s));
    called = λ source s.
        subst (λ (z : Option (List Call) × Option (List Call)). WasCalled settings.page settings.ahead z.0 z.1 (state_at states source))
        (λ i. (sym (calls_before source s) i, sym (calls_now source s) i)) (called_by source s);
  }

  pub is_cut : IsCut (slots_run settings counts readies before after)
  is_cut = record {
    stood = stood;
    states = states;
    uses = uses;
    of = zip_map (OverIf states) IsOfBegun (over_of states) readies stood stood_over;
    read = reads;
  }

  -- the queries that are refused for a fail of a kind, of which each worker was shown so many
  few_refused : (what : FailKind) (source number : ℕ)
      → ((y : WorkerHandle) → Contains handles y → min (count_by (is_refused_for what source) (stood_of (runs_by y))) last_count ≤ number)
      → length those ≤ length readies → count_by (is_refused_for what source) those ≤ settings.workers * number
  few_refused what source number each short =
      let test = is_refused_for what source in
      let all = few_in runs_by (λ (run : Run). run.stood) test last_count number handles each in
      let some = rows_count (λ (run : Run). run.place) (λ (run : Run). run.stood) test 0 readies runs in
      let those_few = count_by-le-length test those in
      let few = h.few in
      let total : count_by test those ≤ length handles * number =
      few_by (count_by test those) (count_by test (stood_of runs)) last_count (length handles * number) (length those) all some those_few (omega (arith, few, short)) in
      let many : length handles ≡ settings.workers = sym (length-map handles (λ (y : WorkerHandle). y.0)) ∙ (ap length all_handles.1 ∙ h.size) in
      subst (λ n. count_by test those ≤ n * number) many total

  -- with how each query ended, in their order
  module _ (places : List (Option Ended)) (endings : List Ended)
      (placed : (place : ℕ) → slice_index_or places place None ≡ standing place (flat_map (λ (w : Worker). w.ended.items) workers) None)
      (gathered : places ≡ map Some endings) (size : length places ≡ length readies) where
    kept : flat_map (λ (w : Worker). w.ended.items) workers ≡ ended_of runs
    kept =
        ap (flat_map (λ (w : Worker). w.ended.items)) (sym all_handles.1)
        ∙ (flat_map-map (λ (w : Worker). w.ended.items) (λ (y : WorkerHandle). y.0) handles ∙ (flat_same handles ∙ kept_in runs_by handles))
      where
        flat_same : (ys : List WorkerHandle) → flat_map (λ (y : WorkerHandle). y.0.ended.items) ys ≡ flat_map (λ (y : WorkerHandle). ended_of (runs_by y)) ys
        flat_same [] = refl
        flat_same (y ∷ ys) =
            ap (λ es. es ++ flat_map (λ (z : WorkerHandle). z.0.ended.items) ys) y.1.at_work.worked.ended ∙ ap (λ es. ended_of (runs_by y) ++ es) (flat_same ys)

    long : length endings ≡ length readies
    long = sym (length-map endings Some) ∙ (ap length (sym gathered) ∙ size)

    each_ended : (i : ℕ) (d : Ready) (e : Ended) → i < length readies
        → (q : RunningQuery) × (stood_at (0 + i) ≡ Some q) × IsEnded states (slice_index_or readies i d) (q, slice_index_or endings i e)
    each_ended i d e l =
        let at : slice_index_or places i None ≡ Some (slice_index_or endings i e) =
        ap (λ os. slice_index_or os i None) gathered ∙ map_at Some endings i e None (omega (arith, l, long)) in
        let is = sym (placed i ∙ ap (λ es. standing i es None) kept) ∙ at in
        let run = run_standing i runs (slice_index_or endings i e) is in
        let over = over_in run.0 run.1 in
        let here : run.0.place ≡ 0 + i = let same = run.2 in omega (arith, same) in (
          run.0.stood,
          ap stood_at (sym here) ∙ run_stands run.0 run.1,
          subst (λ n. IsEnded states (slice_index_or readies n d) (run.0.stood, slice_index_or endings i e)) run.2
              (ended_so states (slice_index_or readies run.0.place d) run.0.stood run.0.ended (slice_index_or endings i e) run.3 (over.ended d)),
        )

    pairs : (ps : List End) × AllZip (IsEnded states) readies ps × (map (λ (p : End). p.1) ps ≡ endings) × (stood ≡ map (λ (p : End). Some p.0) ps)
    pairs = paired (IsEnded states) stood_at 0 readies endings long each_ended

    abbrev ends : List End
    ends = pairs.0

    those_are : those ≡ map (λ (end : End). end.0) ends
    those_are = ap begun pairs.3 ∙ begun_ended ends

    follows : AllZip (IsEnded states) readies ends
    follows = pairs.1

    all_short : length those ≤ length readies
    all_short =
        let a = ap length those_are in
        let b = length-map ends (λ (end : End). end.0) in
        let c = AllZip-long (IsEnded states) readies ends follows in
        omega (arith, a, b, c)

    counted : (source : ℕ) → source < length counts
        → HasCounted settings.workers those source (state_at states source) (slot_at before source).version (slot_at before source).counts (slot_at after source).counts
    counted source s =
        let metered = (h.fetched source s).metered in
        let tally : (feed_at feeds source).pass.1.tally ≡ (state_at states source).tally = sym (h.closed.each source (there source s)).tally in
        record {
          failed = record {
            rose = subst (λ n. RoseBy n (slot_at before source).counts.faults (slot_at after source).counts.faults) (ap (λ (t : Tally). t.failed - 0) tally ∙ omega arith) metered.failed;
            few = few_refused kind.Failed source (state_at states source).tally.failed
                (λ y c.
                let d = y.1.at_work.worked.did source in
                let shown = d.within.shown.failed in
                let knew = (ahead y c source s).tally.failed in
                let mine = d.failed in
                omega (arith, shown, knew, mine)) all_short;
          };
          garbled = record {
            rose = subst (λ n. RoseBy n (slot_at before source).counts.garbles (slot_at after source).counts.garbles) (ap (λ (t : Tally). t.garbled - 0) tally ∙ omega arith) metered.garbled;
            few = few_refused kind.Garbled source (state_at states source).tally.garbled
                (λ y c.
                let d = y.1.at_work.worked.did source in
                let shown = d.within.shown.garbled in
                let knew = (ahead y c source s).tally.garbled in
                let mine = d.garbled in
                omega (arith, shown, knew, mine)) all_short;
          };
          moved = λ had other tells.
              elim ((h.fetched source s).moved had other (subst (λ log. TellsMove log had other) (h.closed.each source (there source s)).log tells)) [
                | inl was ↦ absurd (none_told had other was)
                | inr is ↦ is
              ];
        }

    -- the queries as they ended
    abbrev queries : List RunningQuery
    queries = map (λ (end : End). end.0) ends

    pub is_batch : IsBatch (slots_run settings counts readies before after) (batch_of endings uses)
    is_batch = subst (λ es. IsBatch (slots_run settings counts readies before after) (batch_of es uses)) pairs.2
        (record {
          states = states;
          queries = queries;
          many = reads.many;
          closing = reads.closing;
          of = zip_part (IsEnded states) IsOf (λ (end : End). end.0) (λ ready end is. is.of) readies ends follows;
          served = all_seconds (IsEnded states) (λ (end : End). end.0) (IsServed states) (λ ready end is. is.served) readies ends follows;
          ends = both_parts (IsEnded states) (λ (end : End). end.0) (λ (end : End). end.1) EndsAs (λ ready end is. is.ends) readies ends follows;
          right = zip_part (IsEnded states) IsRight (λ (end : End). end.1) (λ ready end is. is.right) readies ends follows;
          spared = all_seconds (IsEnded states) (λ (end : End). end.0) IsSpared (λ ready end is. is.spared) readies ends follows;
          own = all_seconds (IsEnded states) (λ (end : End). end.0) (IsRefusedByTurns states) (λ ready end is. is.own) readies ends follows;
          uses = h.uses_many;
          used = λ source s.
              subst (λ qs. IsUsed settings qs source (state_at states source) (counts_at (map (λ (slot : SlotState). slot.counts) before) source) (counts_at (map (λ (slot : SlotState). slot.counts) after) source) (use_at uses source))
              those_are (reads.used source s);
          counted = λ source s.
              subst (λ qs. HasCounted settings.workers qs source (state_at states source) (version_at (map (λ (slot : SlotState). slot.version) before) source) (counts_at (map (λ (slot : SlotState). slot.counts) before) source) (counts_at (map (λ (slot : SlotState). slot.counts) after) source)) those_are
              (subst (λ v. HasCounted settings.workers those source (state_at states source) v (counts_at (map (λ (slot : SlotState). slot.counts) before) source) (counts_at (map (λ (slot : SlotState). slot.counts) after) source)) (sym (version_before source s))
              (subst (λ c. HasCounted settings.workers those source (state_at states source) (slot_at before source).version c (counts_at (map (λ (slot : SlotState). slot.counts) after) source)) (sym (counts_before source s))
              (subst (λ c. HasCounted settings.workers those source (state_at states source) (slot_at before source).version (slot_at before source).counts c) (sym (counts_now source s)) (counted source s))));
          called = reads.called;
        })
