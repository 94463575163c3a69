-- Looks ahead, by which a query asks for what is certain, and stays as it is.
use Rattle.std.proofs.Common.{◌≡◌, ◌<◌, ◌∷◌, [], inl, inr, ℕ, Bool, MatchBool, true, false, None, List, length, Contains, slice_index_or, refl, sym, ap, subst, ◌∙◌, arith}
use Rattle.std.proofs.lemmas.Bool.Decides.{eqb_tells}
use Rattle.std.proofs.lemmas.List.{get_or_read}
use Rattle.ranked_list.specs.declared.need.Need.{Need}
use Rattle.ranked_list.specs.declared.need.Need.TheVariants as need
use Rattle.turn_lock.specs.declared.known.Known.{Known}
use Rattle.turn_lock.specs.Facts.{AtMost}
use Rattle.turn_lock.proofs.Growth.{begins_same, begins_on}
use Rattle.topk_theory.proofs.AgreementLists.{contains_at}
use Rattle.machine_base.specs.Certain.{IsOf}
use Rattle.source_state.specs.declared.look.Waiting.{Waiting}
use Rattle.source_state.specs.State.{facts_of}
use Rattle.source_pool.specs.declared.hold.Hold.{Hold}
use Rattle.source_pool.specs.Passes.{hold_at, OthersStay}
use Rattle.source_pool.specs.Looks.{MayLookFor, IsCalledAhead, IsNotCalled, AsksAhead, IsWithin}
use Rattle.query_core.specs.Machines.{state_of}
use Rattle.query_run.specs.declared.running_query.RunningQuery.{RunningQuery}
use Rattle.query_run.specs.Inquiries.{list_needed, source_of, is_done}
use Rattle.query_run.specs.Asking.{IsCertainFor, Wanted}
use Rattle.query_run.specs.Failing.{HasCalledFor}
use Rattle.query_run.specs.Looking.{HasPrefetched, LooksOnce, LooksAhead, LooksAndAhead, IsReading, IsOnItsWay, WaitsAt, Stands, HasLooked}
use Rattle.query_run.specs.Inquiries as inquiries
use Rattle.query_run.proofs.Fails.{called_front}
use Rattle.query_run.proofs.Wants.{marks_same, wanted_none, wanted_on, need_called}
use Rattle.query_run.proofs.Stops.{knows_more, knows_same, hold_knows, looked_on}

-- nothing is foreseen
foreseen_none : (q : RunningQuery) (source : ℕ) (hold : Hold) → HasPrefetched q source hold hold
foreseen_none q source hold = record {
  waits = refl;
  shown = refl;
  knows = knows_same hold;
  turns = begins_same hold.pass.1.gave;
  wanted = wanted_none q source hold.pass.1 hold.pass.1 (marks_same hold hold refl);
}

pub ahead_none : (holds : List Hold) (q : RunningQuery) → LooksAhead holds holds q
ahead_none holds q = record { size = refl; each = λ source. foreseen_none q source (hold_at holds source); others = λ source absent. refl }

-- one after another
foreseen_on : (q : RunningQuery) (source : ℕ) (before now after : Hold) → HasPrefetched q source before now → HasPrefetched q source now after → HasPrefetched q source before after
foreseen_on q source before now after one other = record {
  waits = other.waits ∙ one.waits;
  shown = other.shown ∙ one.shown;
  knows = knows_more before now after one.knows other.knows;
  turns = begins_on one.turns other.turns;
  wanted = wanted_on q source before.pass.1 now.pass.1 after.pass.1 one.knows.follows.met other.knows.follows.met one.wanted other.wanted;
}

pub ahead_on : (before now after : List Hold) (q : RunningQuery) → LooksAhead before now q → LooksAhead now after q → LooksAhead before after q
ahead_on before now after q one other = record {
  size = other.size ∙ one.size;
  each = λ source. foreseen_on q source (hold_at before source) (hold_at now source) (hold_at after source) (one.each source) (other.each source);
  others = λ source absent. other.others source absent ∙ one.others source absent;
}

-- what a turn that asks for a need to come wants
wanted_ahead : (q : RunningQuery) (source : ℕ) (n : Need) (before after : Hold) (missing : Bool) → list_needed n < length q.sources.items → source_of q (list_needed n) ≡ source
    → IsCertainFor q n → MatchBool missing (IsCalledAhead n before after) (IsNotCalled n before after) → Wanted q source before.pass.1 after.pass.1
wanted_ahead q source n before after true listed of certain h = need_called q source n before.pass.1 after.pass.1 listed of certain h.called
wanted_ahead q source n before after false listed of certain h = wanted_none q source before.pass.1 after.pass.1 h.marks

foreseen_by : (q : RunningQuery) (source : ℕ) (n : Need) (before after : Hold) (missing : Bool) → list_needed n < length q.sources.items → source_of q (list_needed n) ≡ source
    → IsCertainFor q n → AsksAhead n before after missing → (IsWithin before → IsWithin after) → HasPrefetched q source before after
foreseen_by q source n before after missing listed of certain asks within = record {
  waits = asks.waits;
  shown = asks.shown;
  knows = hold_knows before after asks.knows within;
  turns = record { rest = facts_of asks.left ∷ []; goes_on = ap (λ (known : Known _). known.gave) asks.gave };
  wanted = wanted_ahead q source n before after missing listed of certain asks.called;
}

pub ahead_by : (before after : List Hold) (q : RunningQuery) (source : ℕ) (n : Need) (missing : Bool) → length after ≡ length before → OthersStay source before after
    → list_needed n < length q.sources.items → source_of q (list_needed n) ≡ source → IsCertainFor q n → AsksAhead n (hold_at before source) (hold_at after source) missing
    → (IsWithin (hold_at before source) → IsWithin (hold_at after source)) → LooksAhead before after q
ahead_by before after q source n missing long others listed of certain asks within = record {
  size = long;
  each = λ other. elim (eqb_tells other source) [
    | inl t ↦ subst (λ s. HasPrefetched q s (hold_at before s) (hold_at after s)) (sym t.1)
        (foreseen_by q source n (hold_at before source) (hold_at after source) missing listed of certain asks within)
    | inr f ↦ subst (λ (hold : Hold). HasPrefetched q other (hold_at before other) hold) (sym (others.stay other f.1)) (foreseen_none q other (hold_at before other))
  ];
  others = λ other absent. others.stay other (λ e. absent (subst (Contains q.sources.items) (of ∙ sym e) (contains_at q.sources.items (list_needed n) 0 listed)));
}

-- the list of what is certain of a list
pub list_is : (n : Need) (count list : ℕ) → IsOf count list n → is_done n ≡ false → list_needed n ≡ list
list_is (need.Row other depth) count list of going = of.0
list_is (need.Grade other object) count list of going = of
list_is need.Done count list of going = absurd (cc)

-- and it may be looked for
pub may_ahead : (holds : List Hold) (q : RunningQuery) (n : Need) (list source : ℕ) → IsReading holds q → list < length q.sources.items → source ≡ source_of q list
    → IsOf (state_of q.machine).log.count list n → is_done n ≡ false → MayLookFor (hold_at holds source).pass.1 n
may_ahead holds q (need.Row other depth) list source h l at of going =
    let is = h.each list 0 l in
    let count : (hold_at holds source).pass.1.name.1 ≡ (state_of q.machine).log.count = ap (λ s. (hold_at holds s).pass.1.name.1) at ∙ is.1 in
    let most = of.2 in
    (of.1, omega (arith, most, count))
may_ahead holds q (need.Grade other object) list source h l at of going = tt
may_ahead holds q need.Done list source h l at of going = absurd (cc)

-- a query reads on through the pass
pub reading_ahead : (before after : List Hold) (q : RunningQuery) → IsReading before q → LooksAhead before after q → IsReading after q
reading_ahead before after q h a = record {
  many = h.many;
  each = λ k d l.
      let is = h.each k d l in
      let size = a.size in
      (omega (arith, is.0, size), ap (λ (name : ℕ × ℕ). name.1) (a.each (slice_index_or q.sources.items k d)).knows.name ∙ is.1);
  run = h.run;
  rests = h.rests;
  states = h.states;
  feeds = record {
    long = h.feeds.long ∙ sym a.size;
    sound = h.feeds.sound;
    counted = h.feeds.counted;
    seen = λ source. begins_on (h.feeds.seen source) (a.each source).knows.follows.seen;
    fed = h.feeds.fed;
  };
}

-- and is on its way
waits_ahead : (before now after : Hold) (q : RunningQuery) (source : ℕ) (n : Need) → HasPrefetched q source now after → WaitsAt q source n before now → WaitsAt q source n before after
waits_ahead before now after q source n a h = record {
  here = h.here;
  needs = h.needs;
  going = h.going;
  noted = subst (λ (w : Waiting). AtMost before.pass.1.tally w.noted) (sym a.waits) h.noted;
  called = subst (λ (w : Waiting). HasCalledFor n w.noted before.pass.1 after.pass.1) (sym a.waits)
      (called_front n now.waiting.noted before.pass.1 now.pass.1 after.pass.1 a.turns h.called);
}

way_ahead : (before now after : List Hold) (q : RunningQuery) → IsOnItsWay before now q → LooksAhead now after q → IsOnItsWay before after q
way_ahead before now after q h a = record {
  waits = λ source n e.
      waits_ahead (hold_at before source) (hold_at now source) (hold_at after source) q source n (a.each source)
      (h.waits source n (sym (ap (λ (w : Waiting). w.need) (a.each source).waits) ∙ e));
  shown = λ source. (a.each source).shown ∙ h.shown source;
  wants = λ source.
      wanted_on q source (hold_at before source).pass.1 (hold_at now source).pass.1 (hold_at after source).pass.1 (h.meets source) (a.each source).knows.follows.met
      (h.wants source) (a.each source).wanted;
  turns = λ source. begins_on (h.turns source) (a.each source).turns;
  meets = λ source. begins_on (h.meets source) (a.each source).knows.follows.met;
}

pub looked_ahead : (before now after : List Hold) (first r : RunningQuery) → HasLooked before now first r → r.refusal ≡ None → LooksAhead now after r
    → HasLooked before after first r
looked_ahead before now after first r h going a = record {
  reading = reading_ahead now after r h.reading a;
  advances = record {
    size = a.size ∙ h.advances.size;
    knows = λ source. knows_more (hold_at before source) (hold_at now source) (hold_at after source) (h.advances.knows source) (a.each source).knows;
    others = λ source absent. a.others source (λ c. absent (subst (λ xs. Contains xs source) h.sources c)) ∙ h.advances.others source absent;
  };
  sources = h.sources;
  method = h.method;
  goes = h.goes;
  stands = subst (Stands before after r) (sym going) (way_ahead before now after r (subst (Stands before now r) going h.stands) a);
}

-- one look more, and looks ahead where it is waited
pub stepped_on : (before now after : List Hold) (first q r : RunningQuery) → length after ≡ length now → HasLooked before now first q → inquiries.is_ended q ≡ false
    → LooksAndAhead now after q r → HasLooked before after first r
stepped_on before now after first q r long h ending (inl look) = looked_on before now after first q r long h ending look
stepped_on before now after first q r long h ending (inr w) =
    looked_ahead before w.middle after first r (looked_on before now w.middle first q r w.size h ending w.look) w.going w.ahead

-- the source of a list of the query is there
pub source_there : (holds : List Hold) (q : RunningQuery) (list at source : ℕ) → IsReading holds q → list < (state_of q.machine).log.lists → at ≡ list
    → source ≡ slice_index_or q.sources.items at source → (source ≡ source_of q list) × (source < length holds) × (list < length q.sources.items)
source_there holds q list at source h l here read =
    let many = h.many in
    let listed : list < length q.sources.items = omega (arith, l, many) in
    let own : source ≡ slice_index_or q.sources.items list source = subst (λ k. source ≡ slice_index_or q.sources.items k source) here read in
    let is : source ≡ source_of q list = get_or_read q.sources.items list source listed own 0 in
    let in_pool = h.each list 0 listed in
    (is, subst (λ s. s < length holds) (sym is) in_pool.0, listed)

-- a look, and where it is waited, looks ahead
pub looked_only : (before after : List Hold) (q r : RunningQuery) → LooksOnce before after q r → LooksAndAhead before after q r
looked_only before after q r h = inl h

pub looked_and_ahead : (before middle after : List Hold) (q r : RunningQuery) → LooksOnce before middle q r → r.refusal ≡ None → length middle ≡ length before
    → LooksAhead middle after r → LooksAndAhead before after q r
looked_and_ahead before middle after q r look going size ahead = inr (record { middle = middle; look = look; going = going; size = size; ahead = ahead })
