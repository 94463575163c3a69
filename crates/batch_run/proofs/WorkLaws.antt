-- What a worker has done so far.
use Rattle.std.proofs.Common.{◌≡◌, ◌≤◌, ◌<◌, ◌==◌, ◌&&◌, ◌+◌, inl, inr, ℕ, min, Bool, true, false, cond, Option, Some, None, List, [], ◌∷◌, ◌++◌, length, All, Contains, IfSome, count_by, slice_index_or, refl, sym, ap, subst, ◌∙◌, arith, le_trans}
use Rattle.std.proofs.lemmas.Grind.{flat_map-append}
use Rattle.std.proofs.lemmas.List.{map-append}
use Rattle.std.proofs.lemmas.List.Elements.{All-append, Contains-append_left, Contains-append_right, Contains-append_cases}
use Rattle.std.proofs.lemmas.List.Sums.{sum_by_push}
use Rattle.topk_theory.proofs.AgreementLists.{contains_here, member_of_all, all_from_members}
use Rattle.atomic_table.specs.Seated.{TableId}
use Rattle.turn_lock.specs.declared.facts.Tally.{Tally}
use Rattle.tickets.specs.declared.draws.Draws.{Draws}
use Rattle.tickets.specs.Draws.{times, drawing}
use Rattle.tickets.proofs.Drawing.{times_append}
use Rattle.source_api.specs.declared.source.FailKind.TheVariants as kind
use Rattle.source_state.specs.declared.look.LookFault.{LookFault}
use Rattle.source_state.specs.declared.look.LookFault.TheVariants as why
use Rattle.source_state.specs.State.{last_count}
use Rattle.source_state.specs.Events.{one_more}
use Rattle.source_pool.specs.declared.hold.Hold.{Hold}
use Rattle.source_pool.specs.Passes.{hold_at, IsPassOf}
use Rattle.source_pool.specs.Looks.{shown_fault}
use Rattle.query_core.specs.declared.ready.Ready.{Ready}
use Rattle.query_run.specs.declared.ended.Ended.{Ended}
use Rattle.query_run.specs.declared.ended.Refusal.{Refusal}
use Rattle.query_run.specs.declared.ended.Refusal.TheVariants.{Core, Look}
use Rattle.query_run.specs.declared.running_query.RunningQuery.{RunningQuery}
use Rattle.query_run.specs.Endings.{IsRight}
use Rattle.query_run.specs.Inquiries.{source_of}
use Rattle.query_run.specs.Advancing.{KnowsMore, HasSourcesIn, IsSourceIn, KnowsAll, Advances, WaitsForNothing}
use Rattle.query_run.specs.Asking.{AsksGradeOf, Wanted}
use Rattle.query_run.specs.Ran.{Ran, RanSome, shown_to}
use Rattle.query_run.proofs.KnowsLaws.{knows_same, knows_on, knows_advanced}
use Rattle.batch_run.specs.declared.work.Worker.{Worker}
use Rattle.batch_result.specs.Using.{is_fail, refuses_for, is_refused_for, IsWantedBy, IsNamedBy}
use Rattle.batch_run.specs.Working.{End, IsEndOf, IsStood, DidOf, Run, IsRunOf, ended_at, ended_of, places_of, stood_of, HasWorked, IsAtWork, Worked}
use Rattle.batch_result.proofs.Places.{same_at}

-- the sources of a query are still there
pub sources_stay : (before after : List Hold) (ready : Ready) → KnowsAll before after → HasSourcesIn before ready → HasSourcesIn after ready
sources_stay before after ready knows h = record {
  each = all_from_members (IsSourceIn after ready.count) ready.sources.items
      (λ source c.
      let is = member_of_all (IsSourceIn before ready.count) ready.sources.items source h.each c in
      (subst (λ n. source < n) (sym knows.size) is.0, ap (λ (name : ℕ × ℕ). name.1) (knows.each source).name ∙ is.1));
}

-- the fails that are shown once a query was refused for one
failed_by_fault : (fault : LookFault) (shown : Tally) → (shown_fault fault shown).failed ≡ cond (is_fail kind.Failed fault) (one_more shown.failed) shown.failed
failed_by_fault (why.Source fault) shown = refl
failed_by_fault (why.Missing object) shown = refl
failed_by_fault (why.AsksFull kept) shown = refl
failed_by_fault (why.Call kind.Failed) shown = refl
failed_by_fault (why.Call kind.Garbled) shown = refl
failed_by_fault (why.Call kind.Memory) shown = refl

garbled_by_fault : (fault : LookFault) (shown : Tally)
    → (shown_fault fault shown).garbled ≡ cond (is_fail kind.Garbled fault) (one_more shown.garbled) shown.garbled
garbled_by_fault (why.Source fault) shown = refl
garbled_by_fault (why.Missing object) shown = refl
garbled_by_fault (why.AsksFull kept) shown = refl
garbled_by_fault (why.Call kind.Failed) shown = refl
garbled_by_fault (why.Call kind.Garbled) shown = refl
garbled_by_fault (why.Call kind.Memory) shown = refl

at_source : (f : Tally → ℕ) (fault : LookFault) (shown : Tally) (is here : Bool) → f (shown_fault fault shown) ≡ cond is (one_more (f shown)) (f shown)
    → f (cond {A = Tally} here (shown_fault fault shown) shown) ≡ cond (is && here) (one_more (f shown)) (f shown)
at_source f fault shown true true e = e
at_source f fault shown false true e = e
at_source f fault shown true false e = refl
at_source f fault shown false false e = refl

shown_failed : (q : RunningQuery) (r : Option Refusal) (source : ℕ) (shown : Tally)
    → (shown_to q r source shown).failed ≡ cond (refuses_for kind.Failed source q r) (one_more shown.failed) shown.failed
shown_failed q None source shown = refl
shown_failed q (Some (Core fault)) source shown = refl
shown_failed q (Some (Look list fault)) source shown =
    at_source (λ t. t.failed) fault shown (is_fail kind.Failed fault) (source_of q list == source) (failed_by_fault fault shown)

shown_garbled : (q : RunningQuery) (r : Option Refusal) (source : ℕ) (shown : Tally)
    → (shown_to q r source shown).garbled ≡ cond (refuses_for kind.Garbled source q r) (one_more shown.garbled) shown.garbled
shown_garbled q None source shown = refl
shown_garbled q (Some (Core fault)) source shown = refl
shown_garbled q (Some (Look list fault)) source shown =
    at_source (λ t. t.garbled) fault shown (is_fail kind.Garbled fault) (source_of q list == source) (garbled_by_fault fault shown)

-- one query more
one_counted : (b : Bool) (count before now : ℕ) → min count last_count ≤ before → now ≡ cond b (one_more before) before
    → min (count + cond b 1 0) last_count ≤ now
one_counted true count before now h e = omega (arith, h, e)
one_counted false count before now h e = omega (arith, h, e)

wanted_on : (queries : List RunningQuery) (q : RunningQuery) (source high more : ℕ) → more ≤ high → IsWantedBy queries source high
    → IsWantedBy (queries ++ q ∷ []) source more
wanted_on queries q source high more le (inl none) = inl (omega (arith, le, none))
wanted_on queries q source high more le (inr some) =
    inr (
      some.0,
      Contains-append_left queries (q ∷ []) some.0 some.1,
      record {
        list = some.2.list;
        listed = some.2.listed;
        of = some.2.of;
        deep = record { met = λ D agrees. le_trans le (some.2.deep.met D agrees) };
      },
    )

named_on : (queries : List RunningQuery) (q : RunningQuery) (source object : ℕ) → IsNamedBy queries source object → IsNamedBy (queries ++ q ∷ []) source object
named_on queries q source object some = (some.0, Contains-append_left queries (q ∷ []) some.0 some.1, some.2)

pub did_more : (queries : List RunningQuery) (q : RunningQuery) (source : ℕ) (before after : Hold) → DidOf queries source before → KnowsMore before after
    → after.shown ≡ shown_to q q.refusal source before.shown → Wanted q source before.pass.1 after.pass.1 → DidOf (queries ++ q ∷ []) source after
did_more queries q source before after did more shown wanted = record {
  rows = elim wanted.rows [
    | inl le ↦ wanted_on queries q source before.pass.1.high after.pass.1.high le did.rows
    | inr asked ↦ inr (q, Contains-append_right queries (q ∷ []) q (contains_here q []), asked)
  ];
  mine = λ object c. elim (Contains-append_cases before.pass.1.mine wanted.news object (subst (λ os. Contains os object) wanted.mine c)) [
    | inl old ↦ named_on queries q source object (did.mine object old)
    | inr asked ↦ (q, Contains-append_right queries (q ∷ []) q (contains_here q []), member_of_all (AsksGradeOf q source) wanted.news object wanted.each asked)
  ];
  failed = subst (λ n. min n last_count ≤ after.shown.failed) (sym (sum_by_push (λ r. cond (is_refused_for kind.Failed source r) 1 0) queries q))
      (one_counted (is_refused_for kind.Failed source q) (count_by (is_refused_for kind.Failed source) queries) before.shown.failed after.shown.failed did.failed
      (ap (λ (t : Tally). t.failed) shown ∙ shown_failed q q.refusal source before.shown));
  garbled = subst (λ n. min n last_count ≤ after.shown.garbled) (sym (sum_by_push (λ r. cond (is_refused_for kind.Garbled source r) 1 0) queries q))
      (one_counted (is_refused_for kind.Garbled source q) (count_by (is_refused_for kind.Garbled source) queries) before.shown.garbled after.shown.garbled did.garbled
      (ap (λ (t : Tally). t.garbled) shown ∙ shown_garbled q q.refusal source before.shown));
  within = more.within did.within;
}

end_on : (before after : List Hold) → KnowsAll before after → (ready : Ready) (end : End) → IsEndOf before ready end → IsEndOf after ready end
end_on before after knows ready end h = record {
  of = h.of;
  ends = h.ends;
  right = h.right;
  spared = h.spared;
  first_held = h.first_held;
  then_held = h.then_held;
  served = h.served;
  later = h.later;
  why = h.why;
  since = knows_on h.then_held before after h.since knows;
}

pub all_sources_stay : (before after : List Hold) (readies : List Ready) → KnowsAll before after → All (HasSourcesIn before) readies
    → All (HasSourcesIn after) readies
all_sources_stay before after readies knows h i d l = sources_stay before after (slice_index_or readies i d) knows (h i d l)

-- runs over a pass that came to know more
stood_on : (before after : List Hold) → KnowsAll before after → (ready : Ready) (q : RunningQuery) → IsStood before ready q → IsStood after ready q
stood_on before after knows ready q h = record { of = h.of; then_held = h.then_held; served = h.served; since = knows_on h.then_held before after h.since knows }

ended_on : (before after : List Hold) → KnowsAll before after → (ready : Ready) (q : RunningQuery) (ended : Option Ended)
    → IfSome ended (λ (e : Ended). IsEndOf before ready (q, e)) → IfSome ended (λ (e : Ended). IsEndOf after ready (q, e))
ended_on before after knows ready q None h = tt
ended_on before after knows ready q (Some e) h = end_on before after knows ready (q, e) h

run_on : (before after : List Hold) (readies : List Ready) → KnowsAll before after → (run : Run) → IsRunOf before readies run → IsRunOf after readies run
run_on before after readies knows run h = record {
  there = h.there;
  stood = λ d. stood_on before after knows (slice_index_or readies run.place d) run.stood (h.stood d);
  ended = λ d. ended_on before after knows (slice_index_or readies run.place d) run.stood run.ended (h.ended d);
}

-- a worker that did nothing yet
pub worked_none : (readies : List Ready) (worker : Worker) → worker.ended.items ≡ [] → ((source : ℕ) → DidOf [] source (hold_at worker.pass source))
    → HasWorked readies worker
worked_none readies worker none idle = record {
  runs = [];
  each = λ i d l. absurd (omega (arith, l));
  drawn = λ number. omega arith;
  did = idle;
  ended = none;
}

-- a worker that may begin stays so while it runs
pub worked_same : (pool : List TableId) (tickets : TableId) (readies : List Ready) (worker : Worker) → IsAtWork pool tickets readies worker
    → Worked pool tickets readies worker worker
worked_same pool tickets readies worker h = record { at_work = h; knows = knows_same worker.pass }

pub worked_on : (pool : List TableId) (tickets : TableId) (readies : List Ready) (first before after : Worker) → Worked pool tickets readies first before
    → Worked pool tickets readies before after → Worked pool tickets readies first after
worked_on pool tickets readies first before after h more = record { at_work = more.at_work; knows = knows_on first.pass before.pass after.pass h.knows more.knows }

-- nothing was drawn
pub drew_nothing : (pool : List TableId) (tickets : TableId) (readies : List Ready) (before after : Worker) → after.pass ≡ before.pass
    → after.draws ≡ before.draws → after.ended.items ≡ before.ended.items → IsAtWork pool tickets readies before → Worked pool tickets readies before after
drew_nothing pool tickets readies before after pass draws ended h = record {
  at_work = record {
    ready = h.ready;
    own = subst (IsPassOf pool) (sym pass) h.own;
    rests = subst WaitsForNothing (sym pass) h.rests;
    sources = subst (λ (holds : List Hold). All (HasSourcesIn holds) readies) (sym pass) h.sources;
    draws = subst (λ (d : TableId × Draws). (d.0 ≡ tickets) × (d.1.parts ≡ 1)) (sym draws) h.draws;
    worked = record {
      runs = h.worked.runs;
      each = subst (λ (holds : List Hold). All (IsRunOf holds readies) h.worked.runs) (sym pass) h.worked.each;
      drawn = λ number. subst (λ (d : TableId × Draws). times number (places_of h.worked.runs) ≤ times number d.1.drawn) (sym draws) (h.worked.drawn number);
      did = λ source. subst (λ (holds : List Hold). DidOf (stood_of h.worked.runs) source (hold_at holds source)) (sym pass) (h.worked.did source);
      ended = ended ∙ h.worked.ended;
    };
  };
  knows = subst (KnowsAll before.pass) (sym pass) (knows_same before.pass);
}

-- what a pass holds after a query, which it may rely on
pub record Left (pool : List TableId) (ready : Ready) (before after : List Hold) : Type 0 where
  pub own : IsPassOf pool after
  pub rests : WaitsForNothing after
  pub advances : Advances ready.sources.items before after

-- a number was drawn, and the query of its place left these runs
drew : (pool : List TableId) (tickets : TableId) (readies : List Ready) (before after : Worker) (number : ℕ) (ready : Ready) (news : List Run)
    → after.draws ≡ (tickets, drawing number before.draws.1) → Left pool ready before.pass after.pass
    → All (IsRunOf after.pass readies) news → ((n : ℕ) → times n (places_of news) ≤ times n (number ∷ []))
    → ((queries : List RunningQuery) → ((source : ℕ) → DidOf queries source (hold_at before.pass source)) → (source : ℕ)
    → DidOf (queries ++ stood_of news) source (hold_at after.pass source))
    → after.ended.items ≡ before.ended.items ++ ended_of news → IsAtWork pool tickets readies before → Worked pool tickets readies before after
drew pool tickets readies before after number ready news draws left each once did ended h =
    let knows = knows_advanced ready.sources.items before.pass after.pass left.advances in
    let runs = h.worked.runs in
    record {
      at_work = record {
        ready = h.ready;
        own = left.own;
        rests = left.rests;
        sources = all_sources_stay before.pass after.pass readies knows h.sources;
        draws = (ap (λ (d : TableId × Draws). d.0) draws, ap (λ (d : TableId × Draws). d.1.parts) draws ∙ h.draws.1);
        worked = record {
          runs = runs ++ news;
          each = All-append (IsRunOf after.pass readies) runs news (λ i d l. run_on before.pass after.pass readies knows (slice_index_or runs i d) (h.worked.each i d l)) each;
          drawn = λ n.
              let all : times n (places_of (runs ++ news)) ≡ times n (places_of runs) + times n (places_of news) =
              ap (times n) (map-append (λ (run : Run). run.place) runs news) ∙ times_append n (places_of runs) (places_of news) in
              let now : times n after.draws.1.drawn ≡ times n before.draws.1.drawn + times n (number ∷ []) =
              ap (λ (d : TableId × Draws). times n d.1.drawn) draws ∙ times_append n before.draws.1.drawn (number ∷ []) in
              let was = h.worked.drawn n in
              let new = once n in
              omega (arith, all, now, was, new);
          did = λ source.
              subst (λ qs. DidOf qs source (hold_at after.pass source)) (sym (map-append (λ (run : Run). run.stood) runs news)) (did (stood_of runs) h.worked.did source);
          ended = ended ∙ (ap (λ es. es ++ ended_of news) h.worked.ended ∙ sym (flat_map-append (λ (run : Run). ended_at run.place run.ended) runs news));
        };
      };
      knows = knows;
    }

one_run : (holds : List Hold) (readies : List Ready) (run : Run) → IsRunOf holds readies run → All (IsRunOf holds readies) (run ∷ [])
one_run holds readies run h = λ i d l. at_first i d l
  where
    at_first : (i : ℕ) (d : Run) → i < 1 → IsRunOf holds readies (slice_index_or (run ∷ []) i d)
    at_first i d l = let first : 0 ≡ i = omega (arith, l) in subst (λ n. IsRunOf holds readies (slice_index_or (run ∷ []) n d)) first h

-- the query at a place, whatever stands elsewhere
at_place : (P : Ready → Type 0) (readies : List Ready) (place : ℕ) (ready d : Ready) → place < length readies → ready ≡ slice_index_or readies place ready
    → P ready → P (slice_index_or readies place d)
at_place P readies place ready d l is h = subst P (is ∙ same_at readies place ready d l) h

once_drawn : (place number n : ℕ) → place ≡ number → times n (place ∷ []) ≤ times n (number ∷ [])
once_drawn place number n e = subst (λ m. times n (place ∷ []) ≤ times n (m ∷ [])) e (omega arith)

-- the query that was drawn ended
pub drew_one : (pool : List TableId) (tickets : TableId) (readies : List Ready) (before after : Worker) (number place : ℕ) (ready : Ready) (ended : Ended)
    → after.draws ≡ (tickets, drawing number before.draws.1) → place ≡ number → place < length readies → ready ≡ slice_index_or readies place ready
    → Left pool ready before.pass after.pass → Ran ready before.pass after.pass ended → IsRight ready ended
    → after.ended.items ≡ before.ended.items ++ record { place = place; answer = ended } ∷ []
    → IsAtWork pool tickets readies before → Worked pool tickets readies before after
drew_one pool tickets readies before after number place ready ended draws same there is left ran right kept h =
    let run : Run = record { place = place; stood = ran.q; ended = Some ended } in
    let knows = knows_advanced ready.sources.items before.pass after.pass left.advances in
    drew pool tickets readies before after number ready (run ∷ []) draws left
    (one_run after.pass readies run (record {
      there = there;
      stood = λ d. at_place (λ r. IsStood after.pass r ran.q) readies place ready d there is
          (record { of = ran.of; then_held = after.pass; served = ran.served; since = knows_same after.pass });
      ended = λ d. at_place (λ r. IsEndOf after.pass r (ran.q, ended)) readies place ready d there is
          (record {
            of = ran.of;
            ends = ran.ends;
            right = right;
            spared = ran.spared;
            first_held = before.pass;
            then_held = after.pass;
            served = ran.served;
            later = ran.uses.since;
            why = ran.why;
            since = knows_same after.pass;
          });
    }))
    (λ n. once_drawn place number n same)
    (λ queries did source. did_more queries ran.q source (hold_at before.pass source) (hold_at after.pass source) (did source) (knows.each source) (ran.uses.shown source) (ran.uses.wanted source))
    kept h

no_query_more : (qs : List RunningQuery) → qs ++ [] ≡ qs
no_query_more [] = refl
no_query_more (q ∷ qs) = ap (λ rs. q ∷ rs) (no_query_more qs)

no_end_more : {A : Type 0} (xs : List A) → xs ++ [] ≡ xs
no_end_more [] = refl
no_end_more (x ∷ xs) = ap (λ ys. x ∷ ys) (no_end_more xs)

-- memory ran out for the query that was drawn
pub drew_short : (pool : List TableId) (tickets : TableId) (readies : List Ready) (before after : Worker) (number place : ℕ) (ready : Ready)
    → after.draws ≡ (tickets, drawing number before.draws.1) → place ≡ number → place < length readies → ready ≡ slice_index_or readies place ready
    → Left pool ready before.pass after.pass → RanSome ready before.pass after.pass → after.ended.items ≡ before.ended.items
    → IsAtWork pool tickets readies before → Worked pool tickets readies before after
drew_short pool tickets readies before after number place ready draws same there is left (inl stays) kept h =
    drew pool tickets readies before after number ready [] draws left (λ i d l. absurd (omega (arith, l))) (λ n. omega arith)
    (λ queries did source. subst (λ qs. DidOf qs source (hold_at after.pass source)) (sym (no_query_more queries))
    (subst (λ (holds : List Hold). DidOf queries source (hold_at holds source)) (sym stays) (did source)))
    (kept ∙ sym (no_end_more before.ended.items)) h
drew_short pool tickets readies before after number place ready draws same there is left (inr some) kept h =
    let run : Run = record { place = place; stood = some.0; ended = None } in
    let knows = knows_advanced ready.sources.items before.pass after.pass left.advances in
    drew pool tickets readies before after number ready (run ∷ []) draws left
    (one_run after.pass readies run (record {
      there = there;
      stood = λ d. at_place (λ r. IsStood after.pass r some.0) readies place ready d there is
          (record { of = some.1.of; then_held = after.pass; served = some.1.served; since = knows_same after.pass });
      ended = λ d. tt;
    }))
    (λ n. once_drawn place number n same)
    (λ queries did source. did_more queries some.0 source (hold_at before.pass source) (hold_at after.pass source) (did source) (knows.each source) (some.1.uses.shown source) (some.1.uses.wanted source))
    (kept ∙ sym (no_end_more before.ended.items)) h
