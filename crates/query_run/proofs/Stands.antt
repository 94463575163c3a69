-- How a query stands after a look, by the look's answer.
use Rattle.std.proofs.Common.{◌≡◌, ◌≢◌, ◌<◌, inl, inr, ℕ, Bool, true, false, cond, Some, None, List, length, slice_index_or, refl, sym, ap, subst, ◌∙◌, arith}
use Rattle.std.proofs.lemmas.Bool.Decides.{eqb_tells}
use Rattle.ranked_list.specs.declared.need.Need.{Need}
use Rattle.ranked_list.specs.declared.need.Need.TheVariants as need
use Rattle.ranked_list.proofs.OptionLaws.{option_cases}
use Rattle.turn_lock.specs.declared.facts.Tally.{Tally}
use Rattle.turn_lock.specs.Facts.{IsFrontOf, AtMost}
use Rattle.turn_lock.proofs.Growth.{at_most_same, begins_same, begins_on}
use Rattle.topk_theory.specs.Transcript.{Grows}
use Rattle.topk_theory.proofs.Agreement.{drawn_more}
use Rattle.machine_base.specs.Machine.{MachineState}
use Rattle.machine_base.specs.declared.core_fault.CoreFault.{CoreFault}
use Rattle.source_api.specs.declared.source.FailKind.{FailKind}
use Rattle.source_state.specs.declared.look.Waiting.{Waiting}
use Rattle.source_state.specs.declared.look.Look.{Look}
use Rattle.source_state.specs.declared.look.Look.TheVariants as look
use Rattle.source_state.specs.declared.look.LookFault.{LookFault}
use Rattle.source_state.specs.declared.look.LookFault.TheVariants as why
use Rattle.source_state.specs.Looking.{waits_for, is_same, newer, told, Refuses}
use Rattle.source_state.specs.State.{State, state_at, facts_of}
use Rattle.source_state.proofs.Lists.{none_not_some, eqb_same}
use Rattle.source_pool.specs.declared.hold.Hold.{Hold}
use Rattle.source_pool.specs.Passes.{hold_at, OthersStay}
use Rattle.source_pool.specs.Looks.{Answers as LookAnswers}
use Rattle.source_pool.specs.Looks.{KeepsMarks, KnowsOn, shown_fault, Ends, BeginsToWait, IsLook, IsTurn}
use Rattle.query_core.specs.Machines.{method_of, state_of, MakesItsRun}
use Rattle.query_run.specs.declared.ended.Refusal.TheVariants as refusal
use Rattle.query_run.specs.declared.running_query.RunningQuery.{RunningQuery}
use Rattle.query_run.specs.Inquiries.{told_to, needed, list_needed, source_of, source_needed, is_done}
use Rattle.query_run.specs.Causes.{CanNotBeHad, IsCause}
use Rattle.query_run.specs.Kept.{IsServed}
use Rattle.query_run.proofs.Serving.{own_list}
use Rattle.query_run.proofs.Causes.{refusal_cause}
use Rattle.source_pool.specs.Seen.{state_seen}
use Rattle.query_run.specs.Seen.{states_seen}
use Rattle.query_run.specs.Advancing.{WaitsForNothing, IsSourceIn}
use Rattle.query_run.specs.Asking.{IsCertainFor, Wanted}
use Rattle.query_run.specs.Failing.{HasCalledFor, RefusedBy, LookRefused}
use Rattle.query_run.specs.Ran.{shown_to}
use Rattle.query_run.specs.Looking.{FeedsFrom, IsReading, WaitsAt, IsOnItsWay, with_waiting, HasStopped}
use Rattle.query_run.proofs.SeenLaws.{state_is, seen_long, told_goes}
use Rattle.query_run.proofs.AskingLaws.{AsksMore, WasGiven, same_asks, given_asks}
use Rattle.query_run.proofs.Wants.{marks_same, wanted_none, wanted_on, need_called, wanted_more}
use Rattle.query_run.proofs.Steps.{Place}
use Rattle.query_run.proofs.Fails.{all_turns, gave_one, called_on, called_first, refused_by}

-- a source where nothing is waited for, as long as the query is unrefused
pub waits_elsewhere : (before now : List Hold) (q : RunningQuery) (source : ℕ) → IsOnItsWay before now q → source ≢ source_needed q
    → (hold_at now source).waiting.need ≡ None
waits_elsewhere before now q source h apart = elim (option_cases (hold_at now source).waiting.need) [
  | inl none ↦ none
  | inr some ↦ absurd (apart (h.waits source some.0 some.1).here)
]

-- what changes at the source of a look that ends the waiting there
pub record Over (now after : Hold) : Type 0 where
  pub none : after.waiting.need ≡ None
  pub noted : after.waiting.noted ≡ now.waiting.noted
  pub marks : KeepsMarks now.pass.1 after.pass.1
  pub met : IsFrontOf now.pass.1.met after.pass.1.met

pub over_of : (now after : Hold) → KnowsOn now.pass.1 after.pass.1 → Ends now after → Over now after
over_of now after knows h = record {
  none = ap (λ (w : Waiting). w.need) h.over;
  noted = ap (λ (w : Waiting). w.noted) h.over;
  marks = h.marks;
  met = knows.follows.met;
}

-- at every source: nothing is waited for after such a look, and the marks stay
all_rest : (before now after : List Hold) (q : RunningQuery) → IsOnItsWay before now q → OthersStay (source_needed q) now after
    → Over (hold_at now (source_needed q)) (hold_at after (source_needed q)) → WaitsForNothing after
all_rest before now after q h others over = record {
  rests = λ source. elim (eqb_tells source (source_needed q)) [
    | inl t ↦ subst (λ s. (hold_at after s).waiting.need ≡ None) (sym t.1) over.none
    | inr f ↦ ap (λ (hold : Hold). hold.waiting.need) (others.stay source f.1) ∙ waits_elsewhere before now q source h f.1
  ];
}

-- what the pass met at every source goes on, and what a look wanted at its own source is all that it wanted
pub all_met : (now after : List Hold) (source other : ℕ) → OthersStay source now after → IsFrontOf (hold_at now source).pass.1.met (hold_at after source).pass.1.met
    → IsFrontOf (hold_at now other).pass.1.met (hold_at after other).pass.1.met
all_met now after source other others met = elim (eqb_tells other source) [
  | inl t ↦ subst (λ s. IsFrontOf (hold_at now s).pass.1.met (hold_at after s).pass.1.met) (sym t.1) met
  | inr f ↦ subst (λ (hold : Hold). IsFrontOf (hold_at now other).pass.1.met hold.pass.1.met) (sym (others.stay other f.1)) (begins_same (hold_at now other).pass.1.met)
]

pub all_wants : (before now after : List Hold) (q : RunningQuery) (source other : ℕ) → IsOnItsWay before now q → OthersStay source now after
    → IsFrontOf (hold_at now source).pass.1.met (hold_at after source).pass.1.met
    → Wanted q source (hold_at now source).pass.1 (hold_at after source).pass.1 → Wanted q other (hold_at before other).pass.1 (hold_at after other).pass.1
all_wants before now after q source other h others met wanted =
    wanted_on q other (hold_at before other).pass.1 (hold_at now other).pass.1 (hold_at after other).pass.1 (h.meets other) (all_met now after source other others met) (h.wants other)
    (elim (eqb_tells other source) [
      | inl t ↦ subst (λ s. Wanted q s (hold_at now s).pass.1 (hold_at after s).pass.1) (sym t.1) wanted
      | inr f ↦ wanted_none q other (hold_at now other).pass.1 (hold_at after other).pass.1 (marks_same (hold_at now other) (hold_at after other) (others.stay other f.1))
    ])

all_shown : (before now after : List Hold) (source other : ℕ) → OthersStay source now after → (hold_at after source).shown ≡ (hold_at now source).shown
    → (hold_at now other).shown ≡ (hold_at before other).shown → (hold_at after other).shown ≡ (hold_at before other).shown
all_shown before now after source other others same h = elim (eqb_tells other source) [
  | inl t ↦ subst (λ s. (hold_at after s).shown ≡ (hold_at now s).shown) (sym t.1) same ∙ h
  | inr f ↦ ap (λ (hold : Hold). hold.shown) (others.stay other f.1) ∙ h
]

-- a query that was given what it needs
pub open_given : (before now after : List Hold) (q r : RunningQuery) (answer : Look) → IsOnItsWay before now q
    → IsLook (needed q) (hold_at now (source_needed q)) (hold_at after (source_needed q)) answer → OthersStay (source_needed q) now after
    → Over (hold_at now (source_needed q)) (hold_at after (source_needed q))
    → (hold_at after (source_needed q)).shown ≡ (hold_at now (source_needed q)).shown → WasGiven q r → IsOnItsWay before after r
open_given before now after q r answer h looks others over shown given = record {
  waits = λ source n e. absurd (none_not_some (sym ((all_rest before now after q h others over).rests source) ∙ e));
  shown = λ source. all_shown before now after (source_needed q) source others shown (h.shown source);
  wants = λ source. wanted_more q r source (hold_at before source).pass.1 (hold_at after source).pass.1 (given_asks q r given)
      (all_wants before now after q (source_needed q) source h others over.met (wanted_none q (source_needed q) _ _ over.marks));
  turns = λ source. all_turns (needed q) before now after (source_needed q) source answer others looks (h.turns source);
  meets = λ source. begins_on (h.meets source) (all_met now after (source_needed q) source others over.met);
}

-- a query that waits, for what it needs
source_same : (q r : RunningQuery) → r.sources.items ≡ q.sources.items → state_of r.machine ≡ state_of q.machine → source_needed r ≡ source_needed q
source_same q r sources same = ap (λ xs. slice_index_or xs (list_needed (needed r)) 0) sources ∙ ap (λ (t : MachineState). source_of q (list_needed t.need)) same

waits_same : (q r : RunningQuery) (source : ℕ) (n m : Need) (answer : Look) (before now after : Hold) → r.sources.items ≡ q.sources.items
    → state_of r.machine ≡ state_of q.machine
    → IsTurn m now after answer → after.waiting ≡ now.waiting → WaitsAt q source n before now → WaitsAt r source n before after
waits_same q r source n m answer before now after sources same turn waiting h = record {
  here = h.here ∙ sym (source_same q r sources same);
  needs = h.needs ∙ ap (λ (t : MachineState). t.need) (sym same);
  going = h.going;
  noted = subst (AtMost before.pass.1.tally) (sym (ap (λ (w : Waiting). w.noted) waiting)) h.noted;
  called = subst (λ (w : Waiting). HasCalledFor n w.noted before.pass.1 after.pass.1) (sym waiting)
      (called_on n now.waiting.noted before.pass.1 now.pass.1 after.pass.1 (facts_of turn.left) (gave_one m now after answer turn) h.called);
}

need_same : (n : Need) → is_done n ≡ false → is_same n n ≡ true
need_same (need.Row list depth) going = eqb_same depth
need_same (need.Grade list object) going = eqb_same object
need_same need.Done going = absurd (cc)

-- what begins to be waited for wasn't waited for before
not_yet : (before now : List Hold) (q : RunningQuery) → IsOnItsWay before now q → waits_for (hold_at now (source_needed q)).waiting.need (needed q) ≡ false
    → (hold_at now (source_needed q)).waiting.need ≡ None
not_yet before now q h unwaited = elim (option_cases (hold_at now (source_needed q)).waiting.need) [
  | inl none ↦ none
  | inr some ↦
      let at = h.waits (source_needed q) some.0 some.1 in
      let waits : waits_for (hold_at now (source_needed q)).waiting.need (needed q) ≡ true
      = ap (λ o. waits_for o (needed q)) some.1 ∙ (ap (λ n. is_same n (needed q)) at.needs ∙ need_same (needed q) (subst (λ n. is_done n ≡ false) at.needs at.going)) in
      let bad : true ≡ false = sym waits ∙ unwaited in
      absurd (cc)
]

begun_waits : (before now after : List Hold) (q r : RunningQuery) (n : Need) (answer : Look)
    → IsFrontOf (hold_at before (source_needed q)).pass.1.gave (hold_at now (source_needed q)).pass.1.gave
    → IsTurn (needed q) (hold_at now (source_needed q)) (hold_at after (source_needed q)) answer → r.sources.items ≡ q.sources.items → state_of r.machine ≡ state_of q.machine
    → is_done (needed q) ≡ false → AtMost (hold_at before (source_needed q)).pass.1.tally (hold_at after (source_needed q)).pass.1.tally
    → BeginsToWait (needed q) (hold_at now (source_needed q)) (hold_at after (source_needed q)) → (hold_at after (source_needed q)).waiting.need ≡ Some n
    → WaitsAt r (source_needed q) n (hold_at before (source_needed q)) (hold_at after (source_needed q))
begun_waits before now after q r n answer front turn sources same going most begins e =
    let is : Some (needed q) ≡ Some n = sym (ap (λ (w : Waiting). w.need) begins.notes) ∙ e in
    let one : needed q ≡ n = cc in
    record {
      here = sym (source_same q r sources same);
      needs = sym one ∙ ap (λ (t : MachineState). t.need) (sym same);
      going = subst (λ m. is_done m ≡ false) one going;
      noted = subst (AtMost (hold_at before (source_needed q)).pass.1.tally) (sym (ap (λ (w : Waiting). w.noted) begins.notes)) most;
      called = subst (λ m. HasCalledFor m (hold_at after (source_needed q)).waiting.noted (hold_at before (source_needed q)).pass.1 (hold_at after (source_needed q)).pass.1) one
          (called_first (needed q) answer (hold_at before (source_needed q)).pass.1 (hold_at now (source_needed q)) (hold_at after (source_needed q)) front turn begins);
    }

pub open_waits : (before now after : List Hold) (q r : RunningQuery) → Place now q → IsOnItsWay before now q
    → IsTurn (needed q) (hold_at now (source_needed q)) (hold_at after (source_needed q)) look.NotYet → OthersStay (source_needed q) now after
    → (hold_at after (source_needed q)).shown ≡ (hold_at now (source_needed q)).shown
    → r.sources.items ≡ q.sources.items → method_of r.machine ≡ method_of q.machine → state_of r.machine ≡ state_of q.machine → is_done (needed q) ≡ false
    → AtMost (hold_at before (source_needed q)).pass.1.tally (hold_at after (source_needed q)).pass.1.tally
    → IsFrontOf (hold_at now (source_needed q)).pass.1.met (hold_at after (source_needed q)).pass.1.met → IsCertainFor q (needed q)
    → Rattle.source_pool.specs.Looks.Waits (needed q) (hold_at now (source_needed q)) (hold_at after (source_needed q)) look.NotYet → IsOnItsWay before after r
open_waits before now after q r place h turn others shown sources method same going most met certain waits = record {
  waits = λ source n e. elim (eqb_tells source (source_needed q)) [
    | inl t ↦ subst (λ s. WaitsAt r s n (hold_at before s) (hold_at after s)) (sym t.1)
        (here n (subst (λ s. (hold_at after s).waiting.need ≡ Some n) t.1 e))
    | inr f ↦ absurd (none_not_some (sym (ap (λ (hold : Hold). hold.waiting.need) (others.stay source f.1) ∙ waits_elsewhere before now q source h f.1) ∙ e))
  ];
  shown = λ source. all_shown before now after (source_needed q) source others shown (h.shown source);
  wants = λ source. wanted_more q r source (hold_at before source).pass.1 (hold_at after source).pass.1 (same_asks q r sources method same)
      (all_wants before now after q (source_needed q) source h others met wants_here);
  turns = λ source. all_turns (needed q) before now after (source_needed q) source look.NotYet others (inr turn) (h.turns source);
  meets = λ source. begins_on (h.meets source) (all_met now after (source_needed q) source others met);
}
  where
    here : (n : Need) → (hold_at after (source_needed q)).waiting.need ≡ Some n
        → WaitsAt r (source_needed q) n (hold_at before (source_needed q)) (hold_at after (source_needed q))
    here n e = elim waits [
      | inl on ↦ waits_same q r (source_needed q) n (needed q) look.NotYet (hold_at before (source_needed q)) (hold_at now (source_needed q)) (hold_at after (source_needed q)) sources same turn on.same
          (h.waits (source_needed q) n (sym (ap (λ (w : Waiting). w.need) on.same) ∙ e))
      | inr begins ↦ begun_waits before now after q r n look.NotYet (h.turns (source_needed q)) turn sources same going most begins e
    ]

    wants_here : Wanted q (source_needed q) (hold_at now (source_needed q)).pass.1 (hold_at after (source_needed q)).pass.1
    wants_here = elim waits [
      | inl on ↦ wanted_none q (source_needed q) _ _ on.marks
      | inr begins ↦ need_called q (source_needed q) (needed q) _ _ place.listed refl certain begins.called
    ]

-- a query that has ended, by the states from which it was fed, is served by what the pass saw
pub stop_served : (after : List Hold) (r : RunningQuery) (last : Waiting) (states : List State) → length r.sources.items ≡ (state_of r.machine).log.lists
    → ((k d : ℕ) → k < length r.sources.items → IsSourceIn after (state_of r.machine).log.count (slice_index_or r.sources.items k d))
    → MakesItsRun r.machine → FeedsFrom after r states → last.need ≡ None
    → IsCause (state_at (states_seen after) (source_needed r)) (state_of r.machine) last.noted r.refusal → IsServed (states_seen after) (with_waiting last r)
stop_served after r last states many each run feeds none cause = record {
  sources = record {
    many = many;
    each = λ k d l.
        let is = each k d l in
        let long = seen_long after in
        (omega (arith, is.0, long), ap (λ (s : State). s.count) (state_is after (slice_index_or r.sources.items k d)) ∙ is.1);
  };
  run = run;
  drawn = record {
    drawn = drawn_more (state_of r.machine).log.lists (told_to states r) (told_to (states_seen after) r) (state_of r.machine).log.accesses
        (subst (λ m. Grows m (told_to states r) (told_to (states_seen after) r)) many
        (told_goes states (states_seen after) r.sources.items
        (λ source. subst (λ (s : State). IsFrontOf (state_at states source).log s.log) (sym (state_is after source)) (feeds.seen source))))
        feeds.fed.drawn;
    roomy = feeds.fed.roomy;
  };
  waits = λ n e. absurd (none_not_some (sym none ∙ e));
  cause = cause;
}

-- what a query wanted of every source after a look that ended the waiting
pub all_wanted : (before now after : List Hold) (q r : RunningQuery) (source : ℕ) → IsOnItsWay before now q → OthersStay (source_needed q) now after
    → Over (hold_at now (source_needed q)) (hold_at after (source_needed q)) → AsksMore q r
    → Wanted r source (hold_at before source).pass.1 (hold_at after source).pass.1
all_wanted before now after q r source h others over more =
    wanted_more q r source (hold_at before source).pass.1 (hold_at after source).pass.1 more
    (all_wants before now after q (source_needed q) source h others over.met (wanted_none q (source_needed q) _ _ over.marks))

-- nothing is waited for, and this was noted
abbrev rest_at : Tally → Waiting
rest_at noted = record { need = None; noted = noted }

-- a query that is refused for its room
pub core_stops : (before now after : List Hold) (q r : RunningQuery) (states : List State) (fault : CoreFault) → IsOnItsWay before now q
    → OthersStay (source_needed q) now after
    → Over (hold_at now (source_needed q)) (hold_at after (source_needed q))
    → (hold_at after (source_needed q)).shown ≡ (hold_at now (source_needed q)).shown
    → r.sources.items ≡ q.sources.items → method_of r.machine ≡ method_of q.machine → state_of r.machine ≡ state_of q.machine → r.refusal ≡ Some (refusal.Core fault)
    → length r.sources.items ≡ (state_of r.machine).log.lists
    → ((k d : ℕ) → k < length r.sources.items → IsSourceIn after (state_of r.machine).log.count (slice_index_or r.sources.items k d))
    → MakesItsRun r.machine → FeedsFrom after r states
    → IsCause (state_at (states_seen after) (source_needed q)) (state_of r.machine) (hold_at before (source_needed r)).pass.1.tally r.refusal → HasStopped before after r
core_stops before now after q r states fault h others over shown sources method same refused many each run feeds cause =
    let last = rest_at (hold_at before (source_needed r)).pass.1.tally in
    record {
      last = last;
      served = stop_served after r last states many each run feeds refl
          (subst (λ s. IsCause (state_at (states_seen after) s) (state_of r.machine) last.noted r.refusal) (sym (source_same q r sources same)) cause);
      uses = record {
        since = at_most_same (hold_at before (source_needed r)).pass.1.tally;
        shown = λ source. all_shown before now after (source_needed q) source others shown (h.shown source)
            ∙ ap (λ o. shown_to (with_waiting last r) o source (hold_at before source).shown) (sym refused);
        wanted = λ source. all_wanted before now after q (with_waiting last r) source h others over (same_asks q (with_waiting last r) sources method same);
      };
      why = subst (LookRefused r before after) (sym refused) tt;
      rests = all_rest before now after q h others over;
    }

-- what was noted of a fail that is told, else what the pass knew at first
abbrev noted_of : LookFault → Tally → Tally → Tally
noted_of (why.Source fault) noted known = known
noted_of (why.Missing object) noted known = known
noted_of (why.AsksFull kept) noted known = known
noted_of (why.Call what) noted known = noted

cause_noted : (s : State) (n : Need) (noted known : Tally) (fault : LookFault) → CanNotBeHad s n noted fault
    → CanNotBeHad s n (noted_of fault noted known) fault
cause_noted s n noted known (why.Source fault) h = h
cause_noted s n noted known (why.Missing object) h = h
cause_noted s n noted known (why.AsksFull kept) h = h
cause_noted s n noted known (why.Call what) h = h

told_waits : (waiting : Waiting) (n : Need) (now : Tally) (what : FailKind) → told waiting n now ≡ Some what → (m : Need) × (waiting.need ≡ Some m)
told_waits waiting n now what e = elim (option_cases waiting.need) [
  | inl none ↦ absurd (none_not_some (sym (ap (λ o. cond (waits_for o n) (newer waiting.noted now) None) none) ∙ e))
  | inr some ↦ some
]

-- what was noted is no less than what the pass knew at first
noted_since : (before now : List Hold) (q : RunningQuery) (u : State) (left : Waiting) (fault : LookFault) → IsOnItsWay before now q
    → Refuses (needed q) u u (hold_at now (source_needed q)).waiting left fault
    → AtMost (hold_at before (source_needed q)).pass.1.tally (noted_of fault (hold_at now (source_needed q)).waiting.noted (hold_at before (source_needed q)).pass.1.tally)
noted_since before now q u left (why.Source fault) h refuses = at_most_same (hold_at before (source_needed q)).pass.1.tally
noted_since before now q u left (why.Missing object) h refuses = at_most_same (hold_at before (source_needed q)).pass.1.tally
noted_since before now q u left (why.AsksFull kept) h refuses = at_most_same (hold_at before (source_needed q)).pass.1.tally
noted_since before now q u left (why.Call what) h refuses = let m = told_waits (hold_at now (source_needed q)).waiting (needed q) u.tally _ refuses.tells in (h.waits (source_needed q) m.0 m.1).noted

-- a fail is shown at the source of its list
fault_shown : (before now after : List Hold) (q r : RunningQuery) (source : ℕ) (fault : LookFault) → IsOnItsWay before now q → OthersStay (source_needed q) now after
    → (hold_at after (source_needed q)).shown ≡ shown_fault fault (hold_at now (source_needed q)).shown → r.sources.items ≡ q.sources.items
    → (hold_at after source).shown ≡ shown_to r (Some (refusal.Look (list_needed (needed q)) fault)) source (hold_at before source).shown
fault_shown before now after q r source fault h others shown sources =
    let shows = λ (b : Bool). cond b (shown_fault fault (hold_at before source).shown) (hold_at before source).shown in
    let of : source_of r (list_needed (needed q)) ≡ source_needed q = ap (λ xs. slice_index_or xs (list_needed (needed q)) 0) sources in
    elim (eqb_tells (source_of r (list_needed (needed q))) source) [
      | inl t ↦
          let here : source_needed q ≡ source = sym of ∙ t.1 in
          let one : (hold_at after source).shown ≡ shown_fault fault (hold_at now source).shown
          = subst (λ s. (hold_at after s).shown ≡ shown_fault fault (hold_at now s).shown) here shown in
          one ∙ (ap (shown_fault fault) (h.shown source) ∙ ap shows (sym t.0))
      | inr f ↦
          let apart : source ≢ source_needed q = λ e. f.1 (of ∙ sym e) in
          ap (λ (hold : Hold). hold.shown) (others.stay source apart) ∙ (h.shown source ∙ ap shows (sym f.0))
    ]

-- a query whose need can't be had
pub fault_stops : (before now after : List Hold) (q r : RunningQuery) (states : List State) (fault : LookFault) → IsOnItsWay before now q
    → OthersStay (source_needed q) now after
    → Over (hold_at now (source_needed q)) (hold_at after (source_needed q))
    → IsTurn (needed q) (hold_at now (source_needed q)) (hold_at after (source_needed q)) (look.Fault fault)
    → LookAnswers (needed q) (hold_at now (source_needed q)) (hold_at after (source_needed q)) (look.Fault fault)
    → (hold_at after (source_needed q)).shown ≡ shown_fault fault (hold_at now (source_needed q)).shown
    → r.sources.items ≡ q.sources.items → method_of r.machine ≡ method_of q.machine → state_of r.machine ≡ state_of q.machine
    → r.refusal ≡ Some (refusal.Look (list_needed (needed q)) fault)
    → is_done (needed q) ≡ false → length r.sources.items ≡ (state_of r.machine).log.lists
    → ((k d : ℕ) → k < length r.sources.items → IsSourceIn after (state_of r.machine).log.count (slice_index_or r.sources.items k d))
    → MakesItsRun r.machine → FeedsFrom after r states
    → Refuses (needed q) (state_seen (hold_at after (source_needed q)).pass.1) (state_seen (hold_at after (source_needed q)).pass.1)
    (hold_at now (source_needed q)).waiting (hold_at after (source_needed q)).waiting fault
    → HasStopped before after r
fault_stops before now after q r states fault h others over turn said shown sources method same refused going many each run feeds refuses =
    let s = source_needed q in
    let u = state_seen (hold_at after s).pass.1 in
    let known = (hold_at before s).pass.1.tally in
    let last = rest_at (noted_of fault (hold_at now s).waiting.noted known) in
    let there : source_needed r ≡ s = source_same q r sources same in
    let had : CanNotBeHad u (needed q) last.noted fault
    = cause_noted u (needed q) (hold_at now s).waiting.noted known fault (refusal_cause (needed q) u u (hold_at now s).waiting (hold_at after s).waiting fault refuses) in
    let of_q : IsCause u (state_of q.machine) last.noted (Some (refusal.Look (list_needed (needed q)) fault)) = (own_list (needed q) going, had) in
    let of_r : IsCause u (state_of r.machine) last.noted r.refusal
    = subst (λ o. IsCause u (state_of r.machine) last.noted o) (sym refused)
    (subst (λ t. IsCause u t last.noted (Some (refusal.Look (list_needed (needed q)) fault))) (sym same) of_q) in
    let seen : state_at (states_seen after) (source_needed r) ≡ u = ap (state_at (states_seen after)) there ∙ state_is after s in
    record {
      last = last;
      served = stop_served after r last states many each run feeds refl (subst (λ v. IsCause v (state_of r.machine) last.noted r.refusal) (sym seen) of_r);
      uses = record {
        since = subst (λ k. AtMost (hold_at before k).pass.1.tally last.noted) (sym there) (noted_since before now q u (hold_at after s).waiting fault h refuses);
        shown = λ source. fault_shown before now after q r source fault h others shown sources
            ∙ ap (λ o. shown_to (with_waiting last r) o source (hold_at before source).shown) (sym refused);
        wanted = λ source. all_wanted before now after q (with_waiting last r) source h others over (same_asks q (with_waiting last r) sources method same);
      };
      why = subst (LookRefused r before after) (sym refused)
          (subst (λ k. RefusedBy fault (needed r) (hold_at before k).pass.1 (hold_at after k).pass.1) (sym there)
          (subst (λ (t : MachineState). RefusedBy fault t.need (hold_at before s).pass.1 (hold_at after s).pass.1) (sym same)
          (refused_by (needed q) (hold_at before s).pass.1 (hold_at now s) (hold_at after s) fault turn said
          (λ what tells.
          let m = told_waits (hold_at now s).waiting (needed q) (hold_at after s).pass.1.tally what tells in
          let at = h.waits s m.0 m.1 in
          subst (λ n. HasCalledFor n (hold_at now s).waiting.noted (hold_at before s).pass.1 (hold_at now s).pass.1) at.needs at.called))));
      rests = all_rest before now after q h others over;
    }

-- a query that needs nothing more
pub done_stops : (before now : List Hold) (r : RunningQuery) → IsReading now r → IsOnItsWay before now r → r.refusal ≡ None → is_done (needed r) ≡ true
    → HasStopped before now r
done_stops before now r reading h unrefused done =
    let last = rest_at (hold_at before (source_needed r)).pass.1.tally in
    record {
      last = last;
      served = stop_served now r last reading.states reading.many reading.each reading.run reading.feeds refl
          (subst (λ o. IsCause (state_at (states_seen now) (source_needed r)) (state_of r.machine) last.noted o) (sym unrefused) tt);
      uses = record {
        since = at_most_same (hold_at before (source_needed r)).pass.1.tally;
        shown = λ source. h.shown source ∙ ap (λ o. shown_to (with_waiting last r) o source (hold_at before source).shown) (sym unrefused);
        wanted = λ source. wanted_more r (with_waiting last r) source (hold_at before source).pass.1 (hold_at now source).pass.1 (same_asks r (with_waiting last r) refl refl refl) (h.wants source);
      };
      why = subst (LookRefused r before now) (sym unrefused) tt;
      rests = record {
        rests = λ source. elim (option_cases (hold_at now source).waiting.need) [
          | inl none ↦ none
          | inr some ↦
              let at = h.waits source some.0 some.1 in
              let bad : true ≡ false = sym done ∙ subst (λ n. is_done n ≡ false) at.needs at.going in
              absurd (cc)
        ];
      };
    }
