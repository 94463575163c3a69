-- What a step keeps of a world.
use Rattle.std.proofs.Common.{◌≡◌, ◌≤◌, ℕ, false, Option, Some, List, [], ◌∷◌, length, slice_get, All, refl, sym, ap, subst, ◌∙◌}
use Rattle.std.specs.List.{AllZip}
use Rattle.std.proofs.lemmas.List.{length-set}
use Rattle.std.proofs.lemmas.List.Elements.{All-set}
use Rattle.topk_theory.proofs.AgreementLists.{all_from_members, member_of_all, slice_get_contains}
use Rattle.source_state.specs.declared.event.Event.{Event}
use Rattle.source_state.specs.declared.event.Event.TheVariants as event
use Rattle.source_state.specs.State.{State, IsSound, state_at}
use Rattle.source_state.specs.Events.{after}
use Rattle.query_core.specs.declared.ready.Ready.{Ready}
use Rattle.query_core.specs.Driving.{Continues}
use Rattle.query_core.specs.Machines.{method_of, state_of}
use Rattle.query_core.proofs.Feeding.{continues_on}
use Rattle.query_run.specs.declared.running_query.RunningQuery.{RunningQuery}
use Rattle.test_worlds.specs.declared.step.Step.{Step}
use Rattle.test_worlds.specs.declared.step.Step.TheVariants.{Page, Grade, Miss, Fail, Move, Turn}
use Rattle.query_run.specs.Histories.{HasHistory}
use Rattle.query_run.specs.Inquiries.{source_needed, is_ended}
use Rattle.test_worlds.specs.Worlds.{WorldState}
use Rattle.test_worlds.specs.Steps.{with_event, MayComeTo, IsOpen, MayStep, TakesTurn, Steps}
use Rattle.query_run.specs.Kept.{IsServed, ReadsOn}
use Rattle.test_worlds.specs.Kept.{IsWorld, IsAfter}
use Rattle.query_run.specs.Made.{IsReadyFor, opened_from, IsOf, IsFresh}
use Rattle.test_worlds.specs.Made.{AreOf, IsMade}
use Rattle.test_worlds.specs.Runs.{Runs}
use Rattle.query_run.proofs.Events.{moved_after}
use Rattle.query_run.proofs.Reading.{turn_reads, reads_on, all_read_same}
use Rattle.test_worlds.proofs.Reading.{after_same, after_on}
use Rattle.query_run.proofs.Serving.{AreLater, sound_at, history_at, later_moved, later_set, served_stays, Turned, turned}
use Rattle.query_run.proofs.Lists.{all_zip_set, zip_member, all_zip_on}
use Rattle.query_run.proofs.TurnOpening.{opened_sound, opened_history, opened_member, fresh_served, fresh_of}

-- what every step makes of a world
pub record Stepped (before after : WorldState) : Type 0 where
  pub world : IsWorld after
  pub later : IsAfter before after
  pub queries : (readies : List Ready) → AreOf readies before → AreOf readies after

pub all_served : (states laters : List State) (queries : List RunningQuery) → AreLater states laters → All (IsServed states) queries → All (IsServed laters) queries
all_served states laters queries later h = all_from_members (IsServed laters) queries (λ q c. served_stays states laters q later (member_of_all (IsServed states) queries q h c))

event_steps : (w : WorldState) (source : ℕ) (e : Event) → IsWorld w → MayComeTo w.states source e
    → Stepped w (record w { states = with_event w.states source e })
event_steps w source e h may =
    let s = state_at w.states source in
    let moved = moved_after s e (sound_at w.states source h.sound may.0) (history_at w.states source h.histories may.0) may.1 in
    let later = later_set w.states source (after s e) h.sound may.0 (later_moved s (after s e) moved) in
    record {
      world = record {
        histories = All-set HasHistory w.states source (after s e) moved.history h.histories;
        sound = All-set IsSound w.states source (after s e) moved.sound h.sound;
        queries = all_served w.states (with_event w.states source e) w.queries later h.queries;
      };
      later = record { sources = later.long; queries = refl; goes = λ other l. (later.each other l).goes; reads = all_read_same w.queries };
      queries = λ readies are. are;
    }

-- the member of an option that is going
pub open_query : (o : Option RunningQuery) (q : RunningQuery) → o ≡ Some q → IsOpen o → is_ended q ≡ false
open_query o q e going = subst IsOpen e going

pub turn_of : (query : ℕ) (w after : WorldState) → IsWorld w → IsOpen (slice_get w.queries query) → (t : TakesTurn query w after)
    → Turned w.states after.states t.q t.r
turn_of query w after h going t =
    turned w.states after.states t.q t.r h.sound h.histories (member_of_all (IsServed w.states) w.queries t.q h.queries (slice_get_contains w.queries query t.q t.is)) (open_query (slice_get w.queries query) t.q t.is going) t.turns

turn_steps : (query : ℕ) (w after : WorldState) → IsWorld w → IsOpen (slice_get w.queries query) → TakesTurn query w after → Stepped w after
turn_steps query w after h going t =
    let done = turn_of query w after h going t in
    let u = done.moved.0 in
    let source = source_needed t.q in
    record {
      world = record {
        histories = subst (All HasHistory) (sym done.moved.3) (All-set HasHistory w.states source u done.moved.2.history h.histories);
        sound = subst (All IsSound) (sym done.moved.3) (All-set IsSound w.states source u done.moved.2.sound h.sound);
        queries = subst (All (IsServed after.states)) (sym t.others) (All-set (IsServed after.states) w.queries query t.r done.served (all_served w.states after.states w.queries done.later h.queries));
      };
      later = record {
        sources = done.later.long;
        queries = ap (length {A = RunningQuery}) t.others ∙ length-set w.queries query t.r;
        goes = λ other l. (done.later.each other l).goes;
        reads = subst (AllZip ReadsOn w.queries) (sym t.others)
            (all_zip_set ReadsOn w.queries w.queries query t.q t.r (all_read_same w.queries) t.is
            (λ x on. reads_on x t.q t.r on (turn_reads t.q t.r t.turns.answer (open_query (slice_get w.queries query) t.q t.is going) t.turns.sources t.turns.same done.goes t.turns.answers)));
      };
      queries = λ readies are. subst (AllZip IsOf readies) (sym t.others) (all_zip_set IsOf readies w.queries query t.q t.r are t.is (λ ready of. of_on ready t.q t.r of done.goes t.turns.sources t.turns.same));
    }
  where
    of_on : (ready : Ready) (q r : RunningQuery) → IsOf ready q → Continues (state_of q.machine) (state_of r.machine) → r.sources.items ≡ q.sources.items
        → method_of r.machine ≡ method_of q.machine → IsOf ready r
    of_on ready q r is goes sources same = record {
      is = is.is;
      first = is.first;
      begun = is.begun;
      goes = continues_on is.first (state_of q.machine) (state_of r.machine) is.goes goes;
      method = same ∙ is.method;
      sources = sources ∙ is.sources;
    }

stepped_is : (w after other : WorldState) → Stepped w other → after ≡ other → Stepped w after
stepped_is w after other h e = subst (Stepped w) (sym e) h

pub stepped : (step : Step) (w after : WorldState) → IsWorld w → MayStep w step → Steps step w after → Stepped w after
stepped (Page source rows) w after h may steps = stepped_is w after _ (event_steps w source (event.Page rows) h may) steps
stepped (Grade source object grade) w after h may steps = stepped_is w after _ (event_steps w source (event.Grade object grade) h may) steps
stepped (Miss source object) w after h may steps = stepped_is w after _ (event_steps w source (event.Miss object) h may) steps
stepped (Fail source what) w after h may steps = stepped_is w after _ (event_steps w source (event.Fail what) h may) steps
stepped (Move source object had now) w after h may steps = stepped_is w after _ (event_steps w source (event.Move object had now) h may) steps
stepped (Turn query) w after h may steps = turn_steps query w after h may steps

-- a world that is made
pub made_world : (counts : List ℕ) (readies : List Ready) (w : WorldState) → All (λ (count : ℕ). count ≤ 200000) counts → All (IsReadyFor counts) readies
    → IsMade counts readies w → IsWorld w
made_world counts readies w small ready made = record {
  histories = subst (All HasHistory) (sym made.states) (all_from_members HasHistory (opened_from 0 counts) (λ s c. let m = opened_member 0 counts s c in subst HasHistory m.3 (opened_history m.0 m.1)));
  sound = subst (All IsSound) (sym made.states)
      (all_from_members IsSound (opened_from 0 counts) (λ s c. let m = opened_member 0 counts s c in subst IsSound m.3 (opened_sound m.0 m.1 (member_of_all (λ (count : ℕ). count ≤ 200000) counts m.1 small m.2))));
  queries = subst (λ states. All (IsServed states) w.queries) (sym made.states)
      (all_from_members (IsServed (opened_from 0 counts)) w.queries
      (λ q c. let m = zip_member IsFresh readies w.queries q made.queries c in fresh_served counts m.0 q (member_of_all (IsReadyFor counts) readies m.0 ready m.1) m.2));
}

pub made_of : (counts : List ℕ) (readies : List Ready) (w : WorldState) → IsMade counts readies w → AreOf readies w
made_of counts readies w made = all_zip_on IsFresh IsOf readies w.queries fresh_of made.queries

-- after every list of steps
pub ran : (steps : List Step) (w last : WorldState) → IsWorld w → Runs w steps last
    → IsWorld last × ((readies : List Ready) → AreOf readies w → AreOf readies last)
ran [] w last h runs = (subst IsWorld (sym runs) h, λ readies are. subst (AreOf readies) (sym runs) are)
ran (step ∷ steps) w last h runs =
    let one = stepped step w runs.0 h runs.1 runs.2 in
    let rest = ran steps runs.0 last one.world runs.3 in
    (rest.0, λ readies are. rest.1 readies (one.queries readies are))

pub ran_after : (steps : List Step) (w last : WorldState) → IsWorld w → Runs w steps last → IsAfter w last
ran_after [] w last h runs = subst (IsAfter w) (sym runs) (after_same w)
ran_after (step ∷ steps) w last h runs =
    let one = stepped step w runs.0 h runs.1 runs.2 in
    after_on w runs.0 last one.later (ran_after steps runs.0 last one.world runs.3)
