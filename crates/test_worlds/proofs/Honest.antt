-- Honest steps, and what comes of them.
use Rattle.std.proofs.Common.{◌≡◌, ℕ, false, Option, Some, List, [], ◌∷◌, slice_get, All, Contains, refl, sym, subst}
use Rattle.std.specs.List.{slice_set}
use Rattle.std.proofs.lemmas.List.Elements.{All-set}
use Rattle.ranked_list.specs.declared.row.Row.{Row}
use Rattle.topk_theory.specs.Transcript.{list_at}
use Rattle.topk_theory.proofs.AgreementLists.{all_from_members, member_of_all, contains_at, slice_get_contains}
use Rattle.source_state.specs.declared.event.Event.{Event}
use Rattle.source_state.specs.declared.event.Event.TheVariants as event
use Rattle.source_state.specs.State.{opened, state_at}
use Rattle.source_state.specs.Events.{after}
use Rattle.query_core.specs.Machines.{state_of}
use Rattle.query_core.specs.declared.ready.Ready.{Ready}
use Rattle.query_run.specs.declared.running_query.RunningQuery.{RunningQuery}
use Rattle.test_worlds.specs.declared.step.Step.{Step}
use Rattle.test_worlds.specs.declared.step.Step.TheVariants.{Page, Grade, Miss, Fail, Move, Turn}
use Rattle.query_run.specs.Inquiries.{needed, source_needed, is_ended}
use Rattle.test_worlds.specs.Worlds.{WorldState}
use Rattle.test_worlds.specs.Steps.{with_event, MayComeTo, IsOpen, MayStep, TakesTurn, Steps}
use Rattle.query_run.specs.Kept.{IsSourceOf, IsServed}
use Rattle.test_worlds.specs.Kept.{IsWorld}
use Rattle.query_run.specs.Made.{opened_from}
use Rattle.test_worlds.specs.Made.{IsMade}
use Rattle.query_run.specs.Honest.{HasTable, IsTrueOf, IsTrueFor, IsOnItsRun}
use Rattle.test_worlds.specs.Honest.{IsHonest, IsTrueWorld}
use Rattle.test_worlds.specs.Runs.{RunsHonestly}
use Rattle.query_run.proofs.Serving.{open_parts}
use Rattle.query_run.proofs.TurnOpening.{opened_member}
use Rattle.test_worlds.proofs.Stepping.{stepped, turn_of}
use Rattle.query_run.proofs.TrueLists.{IsHonestEvent, true_after, true_looked}
use Rattle.query_run.proofs.Honest.{source_ranked, true_set, need_of_object, on_its_run, opened_true}

-- an honest event
true_event : (lists : List (List Row)) (w : WorldState) (source : ℕ) (e : Event) → MayComeTo w.states source e
    → IsHonestEvent (list_at lists source) (state_at w.states source) e → IsTrueWorld lists w → All (IsTrueFor lists (with_event w.states source e)) w.queries
true_event lists w source e may honest h =
    all_from_members (IsTrueFor lists (with_event w.states source e)) w.queries
    (λ q c.
    let is = member_of_all (IsTrueFor lists w.states) w.queries q h c in
    true_set lists w.states q q source (after (state_at w.states source) e) may.0 refl refl
    (λ there. true_after (list_at lists source) (state_at w.states source) e (source_ranked lists q source is.table there)
    (member_of_all (λ o. IsTrueOf (list_at lists o) (state_at w.states o)) q.sources.items source is.each there) may.1 honest)
    is)

-- an honest turn
true_turn : (lists : List (List Row)) (query : ℕ) (w after : WorldState) → IsWorld w → IsOpen (slice_get w.queries query) → TakesTurn query w after
    → IsTrueWorld lists w → IsTrueWorld lists after
true_turn lists query w after h going t is =
    let done = turn_of query w after h going t in
    let q = t.q in
    let source = source_needed q in
    let u = t.turns.state in
    let there : Contains w.queries q = slice_get_contains w.queries query q t.is in
    let served = member_of_all (IsServed w.states) w.queries q h.queries there in
    let own = member_of_all (IsTrueFor lists w.states) w.queries q is there in
    let parts = open_parts q (open_is (slice_get w.queries query) q t.is going) in
    let of = need_of_object lists w.states q (needed q) h.sound served own refl parts.1 in
    let changed = λ (other : RunningQuery) (c : Contains w.queries other) (k : Contains other.sources.items source).
    true_looked (list_at lists source) (needed q) (state_at w.states source) u q.waiting t.r.waiting t.turns.answer
    (member_of_all (λ o. IsTrueOf (list_at lists o) (state_at w.states o)) other.sources.items source (member_of_all (IsTrueFor lists w.states) w.queries other is c).each k) of t.turns.looks in
    let others : All (IsTrueFor lists (slice_set w.states source u)) w.queries =
    all_from_members (IsTrueFor lists (slice_set w.states source u)) w.queries
    (λ other c. true_set lists w.states other other source u done.moved.1 refl refl (changed other c) (member_of_all (IsTrueFor lists w.states) w.queries other is c)) in
    let turned = true_set lists w.states q t.r source u done.moved.1 t.turns.sources done.goes.count (changed q there) own in
    subst (λ states. All (IsTrueFor lists states) after.queries) (sym t.turns.others)
    (subst (All (IsTrueFor lists (slice_set w.states source u))) (sym t.others) (All-set (IsTrueFor lists (slice_set w.states source u)) w.queries query t.r turned others))
  where
    open_is : (o : Option RunningQuery) (q : RunningQuery) → o ≡ Some q → IsOpen o → is_ended q ≡ false
    open_is o q e going = subst IsOpen e going

true_is : (lists : List (List Row)) (after other : WorldState) → after ≡ other → IsTrueWorld lists other → IsTrueWorld lists after
true_is lists after other e h = subst (IsTrueWorld lists) (sym e) h

pub true_step : (lists : List (List Row)) (step : Step) (w after : WorldState) → IsWorld w → MayStep w step → Steps step w after → IsHonest lists w step
    → IsTrueWorld lists w → IsTrueWorld lists after
true_step lists (Page source rows) w after h may steps honest is = true_is lists after _ steps (true_event lists w source (event.Page rows) may honest is)
true_step lists (Grade source object grade) w after h may steps honest is = true_is lists after _ steps (true_event lists w source (event.Grade object grade) may honest is)
true_step lists (Miss source object) w after h may steps honest is = absurd honest
true_step lists (Fail source what) w after h may steps honest is = true_is lists after _ steps (true_event lists w source (event.Fail what) may tt is)
true_step lists (Move source object had now) w after h may steps honest is = absurd honest
true_step lists (Turn query) w after h may steps honest is = true_turn lists query w after h may steps is

pub all_on_run : (lists : List (List Row)) (w : WorldState) → IsWorld w → IsTrueWorld lists w → All (IsOnItsRun lists) w.queries
all_on_run lists w h is =
    all_from_members (IsOnItsRun lists) w.queries
    (λ q c. on_its_run lists w.states q h.sound (member_of_all (IsServed w.states) w.queries q h.queries c) (member_of_all (IsTrueFor lists w.states) w.queries q is c))

pub made_true : (lists : List (List Row)) (counts : List ℕ) (readies : List Ready) (w : WorldState) → IsWorld w → IsMade counts readies w
    → All (HasTable lists) w.queries → IsTrueWorld lists w
made_true lists counts readies w h made tables =
    all_from_members (IsTrueFor lists w.states) w.queries
    (λ q c.
    let served = member_of_all (IsServed w.states) w.queries q h.queries c in
    record {
      table = member_of_all (HasTable lists) w.queries q tables c;
      each = all_from_members (λ source. IsTrueOf (list_at lists source) (state_at w.states source)) q.sources.items
          (λ source k.
          let there = member_of_all (IsSourceOf w.states (state_of q.machine).log.count) q.sources.items source served.sources.each k in
          let member : Contains (opened_from 0 counts) (state_at w.states source) = subst (λ states. Contains states (state_at w.states source)) made.states (contains_at w.states source (opened 0 0) there.0) in
          let is = opened_member 0 counts (state_at w.states source) member in
          subst (IsTrueOf (list_at lists source)) is.3 (opened_true (list_at lists source) is.0 is.1));
    })

pub ran_honestly : (lists : List (List Row)) (steps : List Step) (w last : WorldState) → IsWorld w → IsTrueWorld lists w → RunsHonestly lists w steps last
    → All (IsOnItsRun lists) last.queries
ran_honestly lists [] w last h is runs = subst (λ (v : WorldState). All (IsOnItsRun lists) v.queries) (sym runs) (all_on_run lists w h is)
ran_honestly lists (step ∷ steps) w last h is runs =
    ran_honestly lists steps runs.0 last (stepped step w runs.0 h runs.1 runs.3).world (true_step lists step w runs.0 h runs.1 runs.3 runs.2 is) runs.4
