-- All looks of a query, from the first to the end.
use Rattle.std.proofs.Common.{◌≡◌, ◌≤◌, ◌<◌, ◌||◌, inl, inr, ℕ, zero, suc, true, false, Option, Some, None, Result, Ok, Err, OnErr, List, [], ◌∷◌, length, map, is_some, slice_index_or, All, Contains, refl, sym, ap, subst, ◌∙◌, arith}
use Rattle.std.specs.List.{slice_set}
use Rattle.std.proofs.lemmas.List.{length-map}
use Rattle.std.proofs.lemmas.Bool.Decides.{eqb_tells}
use Rattle.ranked_list.specs.declared.row.Row.{Row}
use Rattle.turn_lock.specs.Facts.{AtMost}
use Rattle.turn_lock.proofs.Growth.{begins_same, begins_nothing, begins_on, at_most_same, at_most_on}
use Rattle.topk_theory.specs.Transcript.{IsDrawn, seen_objects}
use Rattle.topk_theory.proofs.Agreement.{drawn_none}
use Rattle.topk_theory.proofs.AgreementLists.{all_from_members, contains_at, contains_map_from}
use Rattle.machine_base.specs.declared.core_fault.CoreFault.{CoreFault}
use Rattle.machine_base.specs.declared.core_fault.CoreFault.TheVariants.{Strangers, RoomFull}
use Rattle.source_state.specs.declared.look.Waiting.{Waiting}
use Rattle.source_state.specs.declared.look.Look.{Look}
use Rattle.source_state.specs.declared.look.Look.TheVariants as look
use Rattle.source_state.specs.declared.look.LookFault.{LookFault}
use Rattle.source_state.specs.State.{State, opened, IsSound, state_at}
use Rattle.source_state.specs.Drawing.{told_by}
use Rattle.source_state.proofs.Lists.{none_not_some}
use Rattle.source_pool.specs.declared.hold.Hold.{Hold}
use Rattle.source_pool.specs.Passes.{hold_at}
use Rattle.source_pool.specs.Looks.{IsWithin, KnowsOn}
use Rattle.query_core.specs.declared.ready.Ready.{Ready}
use Rattle.query_core.specs.Driving.{Continues, IsFedFrom}
use Rattle.machine_base.specs.Machine.{asked_of}
use Rattle.query_core.specs.Methods.{run_with}
use Rattle.query_core.specs.Machines.{method_of, state_of}
use Rattle.query_run.specs.Asking.{IsCertainFor}
use Rattle.query_core.proofs.Feeding.{continues_same, continues_on}
use Rattle.query_core.proofs.ListCount.{lists_counted}
use Rattle.query_run.specs.declared.ended.Ended.{Ended}
use Rattle.query_run.specs.declared.ended.Ended.TheVariants as ended
use Rattle.query_run.specs.declared.ended.Refusal.{Refusal}
use Rattle.query_run.specs.declared.ended.Refusal.TheVariants as refusal
use Rattle.query_run.specs.declared.running_query.RunningQuery.{RunningQuery}
use Rattle.query_run.specs.Inquiries.{logs_of, told_to, needed, list_needed, source_needed, is_done, is_ended}
use Rattle.query_run.specs.Causes.{LacksRoom, IsCause}
use Rattle.query_run.specs.Endings.{EndsAs, IsRight}
use Rattle.query_run.specs.Made.{IsFresh, IsOf}
use Rattle.query_run.specs.Turns.{RowTaken}
use Rattle.query_run.proofs.Ending.{right}
use Rattle.query_run.proofs.Serving.{open_parts, Went, went}
use Rattle.query_run.proofs.TurnOpening.{opened_sound}
use Rattle.source_pool.specs.Seen.{state_seen}
use Rattle.query_run.specs.Seen.{states_seen}
use Rattle.query_run.specs.Advancing.{WaitsForNothing, IsSourceIn, HasSourcesIn, KnowsMore, Advances}
use Rattle.query_run.specs.Ran.{Ran, RanSome}
use Rattle.query_run.specs.Looking.{FeedsFrom, IsReading, LooksOnce, IsOnItsWay, with_waiting, HasStopped, Stands, HasLooked, wants_memory}
use Rattle.query_run.proofs.SeenLaws.{state_is}
use Rattle.query_run.proofs.AskingLaws.{need_met}
use Rattle.query_run.proofs.Wants.{marks_same, wanted_none}
use Rattle.query_run.proofs.Looked.{turn_of_wait, turn_of_fault, row_seen, grade_seen, fault_seen, SeesOn, name_on, feeds_still}
use Rattle.query_run.proofs.Steps.{placed_at, sees_on, fresh, there_too, decided_looks}
use Rattle.query_run.proofs.Stands.{over_of, open_given, open_waits, core_stops, fault_stops, done_stops}

-- what a look made of a query
record Stepped (before after : List Hold) (q r : RunningQuery) : Type 0 where
  pub goes : Continues (state_of q.machine) (state_of r.machine)
  pub states : List State
  pub feeds : FeedsFrom after r states
  pub stands : Stands before after r r.refusal

-- the sources of the query after a look
each_on : (now after : List Hold) (q r : RunningQuery) → SeesOn (source_needed q) now after → IsReading now q → r.sources.items ≡ q.sources.items
    → Continues (state_of q.machine) (state_of r.machine) → (k d : ℕ) → k < length r.sources.items
    → IsSourceIn after (state_of r.machine).log.count (slice_index_or r.sources.items k d)
each_on now after q r on h sources goes k d l =
    let is = h.each k d (subst (λ xs. k < length xs) sources l) in
    let other = slice_index_or q.sources.items k d in
    let long = on.long in
    subst (λ xs. IsSourceIn after (state_of r.machine).log.count (slice_index_or xs k d)) (sym sources)
    (omega (arith, is.0, long), ap (λ (name : ℕ × ℕ). name.1) (name_on (source_needed q) other now after on) ∙ (is.1 ∙ sym goes.count))

many_on : (now : List Hold) (q r : RunningQuery) → IsReading now q → r.sources.items ≡ q.sources.items → Continues (state_of q.machine) (state_of r.machine)
    → length r.sources.items ≡ (state_of r.machine).log.lists
many_on now q r h sources goes = ap (length {A = ℕ}) sources ∙ h.many ∙ sym goes.lists

-- a query is fed from the same states after its machine went on
feeds_on : (after : List Hold) (q r : RunningQuery) (states : List State) → FeedsFrom after q states → r.sources.items ≡ q.sources.items
    → Continues (state_of q.machine) (state_of r.machine) → IsFedFrom (told_to states q) (state_of r.machine) → FeedsFrom after r states
feeds_on after q r states h sources goes fed = record {
  long = h.long;
  sound = h.sound;
  counted = λ source l. h.counted source l ∙ sym goes.count;
  seen = h.seen;
  fed = subst (λ xs. IsFedFrom (told_by (logs_of states xs)) (state_of r.machine)) (sym sources) fed;
}

same_goes : (q r : RunningQuery) → state_of r.machine ≡ state_of q.machine → Continues (state_of q.machine) (state_of r.machine)
same_goes q r same = subst (Continues (state_of q.machine)) (sym same) (continues_same (state_of q.machine))

-- after a row
row_stands : (before now after : List Hold) (q r : RunningQuery) (row : Row) (states : List State) (refused : Option Refusal) → IsOnItsWay before now q → IsReading now q
    → is_done (needed q) ≡ false → SeesOn (source_needed q) now after → (l : LooksOnce now after q r) → l.answer ≡ look.Row row
    → state_at states (source_needed q) ≡ state_seen (hold_at after (source_needed q)).pass.1
    → FeedsFrom after r states → Went states q r → r.refusal ≡ refused → RowTaken row q r refused → Stands before after r refused
row_stands before now after q r row states None h reading going on l is seen feeds w e taken =
    open_given before now after q r (look.Row row) h
    (subst (Rattle.source_pool.specs.Looks.IsLook (needed q) (hold_at now (source_needed q)) (hold_at after (source_needed q))) is l.look) l.others
    (over_of _ _ l.knows (subst (Rattle.source_pool.specs.Looks.Waits (needed q) (hold_at now (source_needed q)) (hold_at after (source_needed q))) is l.waits))
    (l.shown ∙ ap (λ a. Rattle.source_pool.specs.Looks.shown_by a (hold_at now (source_needed q)).shown) is)
    (record { sources = l.sources; method = l.method; access = Rattle.machine_base.specs.Machine.row_access (needed q) row; takes = taken.1 })
row_stands before now after q r row states (Some (refusal.Core fault)) h reading going on l is seen feeds w e taken =
    let same : state_of r.machine ≡ state_of q.machine = stays fault taken in
    core_stops before now after q r states fault h l.others
    (over_of _ _ l.knows (subst (Rattle.source_pool.specs.Looks.Waits (needed q) (hold_at now (source_needed q)) (hold_at after (source_needed q))) is l.waits))
    (l.shown ∙ ap (λ a. Rattle.source_pool.specs.Looks.shown_by a (hold_at now (source_needed q)).shown) is)
    l.sources l.method same e (many_on now q r reading l.sources (same_goes q r same)) (each_on now after q r on reading l.sources (same_goes q r same)) l.run feeds
    (elim w.cause [
      | inl none ↦ absurd (none_not_some (sym none ∙ e))
      | inr cause ↦
          let lacks : LacksRoom (state_at states (source_needed q)) (state_of r.machine) fault
          = subst (IsCause (state_at states (source_needed q)) (state_of r.machine) r.waiting.noted) e cause.1 in
          let there : LacksRoom (state_at (states_seen after) (source_needed q)) (state_of r.machine) fault
          = subst (λ s. LacksRoom s (state_of r.machine) fault) (seen ∙ sym (state_is after (source_needed q))) lacks in
          subst (IsCause (state_at (states_seen after) (source_needed q)) (state_of r.machine) (hold_at before (source_needed r)).pass.1.tally) (sym e) there
    ])
  where
    stays : (fault : CoreFault) → RowTaken row q r (Some (refusal.Core fault)) → state_of r.machine ≡ state_of q.machine
    stays (Strangers object count) taken = taken.4
    stays (RoomFull room) taken = taken.3
row_stands before now after q r row states (Some (refusal.Look list fault)) h reading going on l is seen feeds w e taken = absurd taken

step_row : (before now after : List Hold) (q r : RunningQuery) (row : Row) → IsOnItsWay before now q → IsReading now q → is_ended q ≡ false
    → SeesOn (source_needed q) now after → (l : LooksOnce now after q r) → l.answer ≡ look.Row row → Stepped before after q r
step_row before now after q r row h reading ending on l is =
    let s = source_needed q in
    let parts = open_parts q ending in
    let place = placed_at now q reading ending in
    let looks = subst (Rattle.source_pool.specs.Looks.IsLook (needed q) (hold_at now s) (hold_at after s)) is l.look in
    let by = row_seen (needed q) (hold_at now s) (hold_at after s) row looks in
    let states = slice_set reading.states s (state_seen (hold_at after s).pass.1) in
    let f = fresh now after q reading parts.0 place on by.sound in
    let answers = subst (Rattle.query_run.specs.Turns.Answers q r) is l.answers in
    let w = went states q r (state_at states s) (look.Row row) f.served parts.1
    (decided_looks reading.states s (needed q) (state_seen (hold_at after s).pass.1) q.waiting r.waiting (look.Row row) (there_too now q reading place) by reading.rests l.waiting) answers in
    let feeds = feeds_on after q r states f.feeds l.sources w.goes w.fed in
    record {
      goes = w.goes;
      states = states;
      feeds = feeds;
      stands = row_stands before now after q r row states r.refusal h reading parts.1 on l is f.seen feeds w refl answers;
    }

-- after a grade
step_grade : (before now after : List Hold) (q r : RunningQuery) (grade : ℕ) → IsOnItsWay before now q → IsReading now q → is_ended q ≡ false
    → SeesOn (source_needed q) now after → (l : LooksOnce now after q r) → l.answer ≡ look.Grade grade → Stepped before after q r
step_grade before now after q r grade h reading ending on l is =
    let s = source_needed q in
    let parts = open_parts q ending in
    let place = placed_at now q reading ending in
    let looks = subst (Rattle.source_pool.specs.Looks.IsLook (needed q) (hold_at now s) (hold_at after s)) is l.look in
    let by = grade_seen (needed q) (hold_at now s) (hold_at after s) grade looks in
    let states = slice_set reading.states s (state_seen (hold_at after s).pass.1) in
    let f = fresh now after q reading parts.0 place on by.sound in
    let answers = subst (Rattle.query_run.specs.Turns.Answers q r) is l.answers in
    let w = went states q r (state_at states s) (look.Grade grade) f.served parts.1
    (decided_looks reading.states s (needed q) (state_seen (hold_at after s).pass.1) q.waiting r.waiting (look.Grade grade) (there_too now q reading place) by reading.rests l.waiting) answers in
    record {
      goes = w.goes;
      states = states;
      feeds = feeds_on after q r states f.feeds l.sources w.goes w.fed;
      stands = subst (Stands before after r) (sym answers.0)
          (open_given before now after q r (look.Grade grade) h looks l.others
          (over_of _ _ l.knows (subst (Rattle.source_pool.specs.Looks.Waits (needed q) (hold_at now s) (hold_at after s)) is l.waits))
          (l.shown ∙ ap (λ a. Rattle.source_pool.specs.Looks.shown_by a (hold_at now s).shown) is)
          (record { sources = l.sources; method = l.method; access = Rattle.machine_base.specs.Machine.grade_access (needed q) grade; takes = answers.1 }));
    }

-- the pass knows at least as much as at first
tally_more : (sources : List ℕ) (before now after : List Hold) (q : RunningQuery) → Advances sources before now → SeesOn (source_needed q) now after
    → AtMost (hold_at before (source_needed q)).pass.1.tally (hold_at after (source_needed q)).pass.1.tally
tally_more sources before now after q h on = at_most_on (h.knows (source_needed q)).follows.tally on.follows.tally

-- what a query needs is certain
need_certain : (holds : List Hold) (q : RunningQuery) → IsReading holds q → IsCertainFor q (needed q)
need_certain holds q h = record {
  met = λ D agrees. need_met (run_with (method_of q.machine) (asked_of (state_of q.machine)) D) (state_of q.machine).log.accesses (needed q) (h.run.on_run D agrees);
}

-- where it isn't there yet
step_waits : (sources : List ℕ) (before now after : List Hold) (q r : RunningQuery) → Advances sources before now → IsOnItsWay before now q → IsReading now q
    → is_ended q ≡ false → SeesOn (source_needed q) now after → (l : LooksOnce now after q r) → l.answer ≡ look.NotYet → Stepped before after q r
step_waits sources before now after q r advances h reading ending on l is =
    let s = source_needed q in
    let parts = open_parts q ending in
    let place = placed_at now q reading ending in
    let answers = subst (Rattle.query_run.specs.Turns.Answers q r) is l.answers in
    let same : state_of r.machine ≡ state_of q.machine = ap state_of answers.1 in
    let goes = same_goes q r same in
    let feeds = feeds_still s now after q reading.states on reading.feeds in
    record {
      goes = goes;
      states = reading.states;
      feeds = feeds_on after q r reading.states feeds l.sources goes (subst (IsFedFrom (told_to reading.states q)) (sym same) reading.feeds.fed);
      stands = subst (Stands before after r) (sym answers.0)
          (open_waits before now after q r place h (turn_of_wait (needed q) (hold_at now s) (hold_at after s) (subst (Rattle.source_pool.specs.Looks.IsLook (needed q) (hold_at now s) (hold_at after s)) is l.look)) l.others
          (l.shown ∙ ap (λ a. Rattle.source_pool.specs.Looks.shown_by a (hold_at now s).shown) is)
          l.sources l.method same parts.1 (tally_more sources before now after q advances on) l.knows.follows.met (need_certain now q reading)
          (subst (Rattle.source_pool.specs.Looks.Waits (needed q) (hold_at now s) (hold_at after s)) is l.waits));
    }

-- where it can't be had
step_fault : (before now after : List Hold) (q r : RunningQuery) (fault : LookFault) → IsOnItsWay before now q → IsReading now q → is_ended q ≡ false
    → SeesOn (source_needed q) now after → (l : LooksOnce now after q r) → l.answer ≡ look.Fault fault → Stepped before after q r
step_fault before now after q r fault h reading ending on l is =
    let s = source_needed q in
    let parts = open_parts q ending in
    let answers = subst (Rattle.query_run.specs.Turns.Answers q r) is l.answers in
    let same : state_of r.machine ≡ state_of q.machine = ap state_of answers.1 in
    let goes = same_goes q r same in
    let turn = turn_of_fault (needed q) (hold_at now s) (hold_at after s) fault (subst (Rattle.source_pool.specs.Looks.IsLook (needed q) (hold_at now s) (hold_at after s)) is l.look) in
    let feeds = feeds_on after q r reading.states (feeds_still s now after q reading.states on reading.feeds) l.sources goes (subst (IsFedFrom (told_to reading.states q)) (sym same) reading.feeds.fed) in
    record {
      goes = goes;
      states = reading.states;
      feeds = feeds;
      stands = subst (Stands before after r) (sym answers.0)
          (fault_stops before now after q r reading.states fault h l.others
          (over_of _ _ l.knows (subst (Rattle.source_pool.specs.Looks.Waits (needed q) (hold_at now s) (hold_at after s)) is l.waits))
          turn (subst (Rattle.source_pool.specs.Looks.Answers (needed q) (hold_at now s) (hold_at after s)) is l.said)
          (l.shown ∙ ap (λ a. Rattle.source_pool.specs.Looks.shown_by a (hold_at now s).shown) is)
          l.sources l.method same answers.0 parts.1 (many_on now q r reading l.sources goes) (each_on now after q r on reading l.sources goes) l.run feeds
          (fault_seen (needed q) (hold_at now s) (hold_at after s) fault turn));
    }

step_by : (sources : List ℕ) (before now after : List Hold) (q r : RunningQuery) (answer : Look) → Advances sources before now → IsOnItsWay before now q
    → IsReading now q
    → is_ended q ≡ false → SeesOn (source_needed q) now after → (l : LooksOnce now after q r) → l.answer ≡ answer → Stepped before after q r
step_by sources before now after q r (look.Row row) advances h reading ending on l is = step_row before now after q r row h reading ending on l is
step_by sources before now after q r (look.Grade grade) advances h reading ending on l is = step_grade before now after q r grade h reading ending on l is
step_by sources before now after q r look.NotYet advances h reading ending on l is = step_waits sources before now after q r advances h reading ending on l is
step_by sources before now after q r (look.Fault fault) advances h reading ending on l is = step_fault before now after q r fault h reading ending on l is

-- what the pass knows goes on
pub knows_more : (before now after : Hold) → KnowsMore before now → KnowsMore now after → KnowsMore before after
knows_more before now after one other = record {
  follows = record {
    seen = begins_on one.follows.seen other.follows.seen;
    met = begins_on one.follows.met other.follows.met;
    tally = at_most_on one.follows.tally other.follows.tally;
  };
  name = other.name ∙ one.name;
  parts = other.parts ∙ one.parts;
  writer = other.writer ∙ one.writer;
  within = λ w. other.within (one.within w);
}

pub knows_same : (hold : Hold) → KnowsMore hold hold
knows_same hold = record {
  follows = record { seen = begins_same _; met = begins_same _; tally = at_most_same _ };
  name = refl;
  parts = refl;
  writer = refl;
  within = λ w. w;
}

pub advances_same : (sources : List ℕ) (holds : List Hold) → Advances sources holds holds
advances_same sources holds = record { size = refl; knows = λ source. knows_same (hold_at holds source); others = λ source absent. refl }

pub hold_knows : (now after : Hold) → KnowsOn now.pass.1 after.pass.1 → (IsWithin now → IsWithin after) → KnowsMore now after
hold_knows now after knows within = record { follows = knows.follows; name = knows.name; parts = knows.parts; writer = knows.writer; within = within }

advances_on : (sources : List ℕ) (before now after : List Hold) (q r : RunningQuery) → Contains sources (source_needed q) → length after ≡ length now
    → LooksOnce now after q r → Advances sources before now → Advances sources before after
advances_on sources before now after q r among long l h = record {
  size = long ∙ h.size;
  knows = λ source. elim (eqb_tells source (source_needed q)) [
    | inl t ↦ subst (λ s. KnowsMore (hold_at before s) (hold_at after s)) (sym t.1)
        (knows_more _ _ _ (h.knows (source_needed q)) (hold_knows (hold_at now (source_needed q)) (hold_at after (source_needed q)) l.knows l.within))
    | inr f ↦ subst (λ (hold : Hold). KnowsMore (hold_at before source) hold) (sym (l.others.stay source f.1)) (h.knows source)
  ];
  others = λ source absent. l.others.stay source (λ e. absent (subst (Contains sources) (sym e) among)) ∙ h.others source absent;
}

-- one more look
pub looked_on : (before now after : List Hold) (first q r : RunningQuery) → length after ≡ length now → HasLooked before now first q → is_ended q ≡ false
    → LooksOnce now after q r → HasLooked before after first r
looked_on before now after first q r long h ending l =
    let parts = open_parts q ending in
    let reading = h.reading in
    let place = placed_at now q reading ending in
    let on = sees_on (source_needed q) now after long l.others l.knows in
    let stands : IsOnItsWay before now q = subst (Stands before now q) parts.0 h.stands in
    let step = step_by first.sources.items before now after q r l.answer h.advances stands reading ending on l refl in
    let among : Contains first.sources.items (source_needed q) = subst (λ xs. Contains xs (source_needed q)) h.sources (contains_at q.sources.items (list_needed (needed q)) 0 place.listed) in
    record {
      reading = record {
        many = many_on now q r reading l.sources step.goes;
        each = λ k d m. each_on now after q r on reading l.sources step.goes k d m;
        run = l.run;
        rests = ap (λ (w : Waiting). w.need) l.waiting ∙ reading.rests;
        states = step.states;
        feeds = step.feeds;
      };
      advances = advances_on first.sources.items before now after q r among long l h.advances;
      sources = l.sources ∙ h.sources;
      method = l.method ∙ h.method;
      goes = continues_on (state_of first.machine) (state_of q.machine) (state_of r.machine) h.goes step.goes;
      stands = step.stands;
    }

-- no look
pub looked_none : (before : List Hold) (q : RunningQuery) → WaitsForNothing before → IsReading before q → q.refusal ≡ None → HasLooked before before q q
looked_none before q rests reading unrefused = record {
  reading = reading;
  advances = advances_same q.sources.items before;
  sources = refl;
  method = refl;
  goes = continues_same (state_of q.machine);
  stands = subst (Stands before before q) (sym unrefused) (record {
    waits = λ source n e. absurd (none_not_some (sym (rests.rests source) ∙ e));
    shown = λ source. refl;
    wants = λ source. wanted_none q source _ _ (marks_same (hold_at before source) (hold_at before source) refl);
    turns = λ source. begins_same _;
    meets = λ source. begins_same _;
  });
}

-- the end
pub stopped : (before now : List Hold) (first r : RunningQuery) → HasLooked before now first r → is_ended r ≡ true → HasStopped before now r
stopped before now first r h end = by_refusal r.refusal refl h.stands end
  where
    by_refusal : (refused : Option Refusal) → r.refusal ≡ refused → Stands before now r refused → (is_some r.refusal || is_done (needed r)) ≡ true
        → HasStopped before now r
    by_refusal None e stands end = done_stops before now r h.reading stands e (ap (λ o. is_some o || is_done (needed r)) (sym e) ∙ end)
    by_refusal (Some refused) e stands end = stands

-- a query that is ready reads from nothing at first
abbrev begun : ℕ → List Hold → List State
begun count holds = map (λ (hold : Hold). opened 0 count) holds

begun_log : (count : ℕ) (holds : List Hold) (source : ℕ) → (state_at (begun count holds) source).log ≡ []
begun_log count [] source = refl
begun_log count (hold ∷ holds) zero = refl
begun_log count (hold ∷ holds) (suc source) = begun_log count holds source

begun_count : (count : ℕ) (holds : List Hold) (source : ℕ) → source < length holds → (state_at (begun count holds) source).count ≡ count
begun_count count [] source l = absurd (omega (arith, l))
begun_count count (hold ∷ holds) zero l = refl
begun_count count (hold ∷ holds) (suc source) l = begun_count count holds source (omega (arith, l))

begun_long : (count : ℕ) (holds : List Hold) → length (begun count holds) ≡ length holds
begun_long count holds = length-map holds (λ (hold : Hold). opened 0 count)

pub fresh_reads : (holds : List Hold) (ready : Ready) (q : RunningQuery) → HasSourcesIn holds ready → IsFresh ready q → IsReading holds q
fresh_reads holds ready q in_pool is =
    let t = state_of q.machine in
    let begins = is.machine.begun in
    let states = begun t.log.count holds in
    let small = is.is.counted in
    let count = begins.count in
    record {
      many = ap (length {A = ℕ}) is.sources ∙ is.is.sources ∙ sym (lists_counted ready.query is.is.lawful) ∙ sym begins.lists;
      each = subst (All (IsSourceIn holds t.log.count)) (sym is.sources) (subst (λ n. All (IsSourceIn holds n) ready.sources.items) (sym count) in_pool.each);
      run = is.run;
      rests = is.waits;
      states = states;
      feeds = record {
        long = begun_long t.log.count holds;
        sound = all_from_members IsSound states (λ s c. let from = contains_map_from (λ (hold : Hold). opened 0 t.log.count) holds s c in subst IsSound from.2 (opened_sound 0 t.log.count (omega (arith, small, count))));
        counted = λ source l. begun_count t.log.count holds source (let long = begun_long t.log.count holds in omega (arith, l, long));
        seen = λ source. subst (λ log. Rattle.turn_lock.specs.Facts.IsFrontOf log (hold_at holds source).pass.1.seen) (sym (begun_log t.log.count holds source)) (begins_nothing (hold_at holds source).pass.1.seen);
        fed = record {
          drawn = subst (IsDrawn t.log.lists (told_to states q)) (sym begins.none) (drawn_none t.log.lists (told_to states q));
          roomy = subst (λ A. length (seen_objects A) ≤ t.room) (sym begins.none) (omega arith);
        };
      };
    }

-- the ending doesn't ask what was waited for
ends_with : (last : Waiting) (q : RunningQuery) (end : Ended) → EndsAs q end → EndsAs (with_waiting last q) end
ends_with last q (ended.Answered answer) h = record { unrefused = h.unrefused; done = h.done; items = h.items; log = h.log }
ends_with last q (ended.Core fault) h = h
ends_with last q (ended.Look list fault) h = h

of_looked : (before after : List Hold) (ready : Ready) (first q : RunningQuery) (last : Waiting) → IsFresh ready first → HasLooked before after first q
    → IsOf ready (with_waiting last q)
of_looked before after ready first q last is looked = record {
  is = is.is;
  first = state_of first.machine;
  begun = is.machine.begun;
  goes = looked.goes;
  method = looked.method ∙ is.machine.method;
  sources = looked.sources ∙ is.sources;
}

pub ran : (before after : List Hold) (ready : Ready) (first q : RunningQuery) (end : Ended) → IsFresh ready first → HasLooked before after first q
    → HasStopped before after q → wants_memory q.refusal ≡ false → EndsAs q end → Ran ready before after end
ran before after ready first q end is looked stop spared ends = record {
  q = with_waiting stop.last q;
  of = of_looked before after ready first q stop.last is looked;
  ends = ends_with stop.last q end ends;
  spared = λ list e. let bad : true ≡ false = ap wants_memory (sym e) ∙ spared in cc;
  served = stop.served;
  uses = stop.uses;
  why = stop.why;
}

-- a query that has stopped ran some way, also where its call failed
pub ran_some : (before after : List Hold) (ready : Ready) (first q : RunningQuery) → IsFresh ready first → HasLooked before after first q
    → HasStopped before after q → RanSome ready before after
ran_some before after ready first q is looked stop =
    inr (with_waiting stop.last q, record { of = of_looked before after ready first q stop.last is looked; served = stop.served; uses = stop.uses })

pub failed_too : {A E P : Type 0} (r : Result A E) → P → OnErr r P
failed_too (Ok x) p = tt
failed_too (Err e) p = p

pub ran_right : (ready : Ready) (before after : List Hold) (end : Ended) → Ran ready before after end → IsRight ready end
ran_right ready before after end h = right (states_seen after) ready h.q end h.served h.of h.ends
