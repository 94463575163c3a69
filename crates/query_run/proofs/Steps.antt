-- From one look to the next.
use Rattle.std.proofs.Common.{◌≡◌, ◌<◌, ℕ, false, Option, Some, None, List, All, length, slice_index_or, refl, sym, ap, subst, ◌∙◌, arith}
use Rattle.std.specs.List.{slice_set}
use Rattle.std.specs.Option.{IfSome}
use Rattle.std.proofs.lemmas.List.{get_or_read}
use Rattle.ranked_list.specs.declared.need.Need.{Need}
use Rattle.ranked_list.specs.declared.need.Need.TheVariants as need
use Rattle.turn_lock.specs.declared.known.Known.{Known}
use Rattle.machine_base.specs.Machine.{MachineState, IsInRange}
use Rattle.machine_base.proofs.MachineLaws.{in_range}
use Rattle.source_state.specs.declared.entry.LogEntry.{LogEntry}
use Rattle.source_state.specs.declared.look.Waiting.{Waiting}
use Rattle.source_state.specs.declared.look.Look.{Look}
use Rattle.source_state.specs.declared.look.Look.TheVariants as look
use Rattle.source_state.specs.Looking.{decided, IsDecided}
use Rattle.source_state.specs.State.{State, IsSound, state_at}
use Rattle.source_state.proofs.Lists.{none_not_some}
use Rattle.source_pool.specs.declared.hold.Hold.{Hold}
use Rattle.source_pool.specs.Passes.{hold_at, OthersStay}
use Rattle.source_pool.specs.Looks.{MayLookFor, shown_by, IsLook, IsWithin, KnowsOn, Waits}
use Rattle.query_core.specs.Methods.{run_with}
use Rattle.query_core.specs.Machines.{method_of, state_of, MakesItsRun}
use Rattle.query_run.specs.declared.running_query.RunningQuery.{RunningQuery}
use Rattle.query_run.specs.Inquiries.{logs_of, needed, list_needed, source_needed, is_done, is_ended}
use Rattle.query_run.specs.Kept.{IsServed}
use Rattle.query_run.specs.Causes.{IsCause}
use Rattle.query_run.specs.Turns.{MayFeed, Answers}
use Rattle.query_run.proofs.Serving.{state_set, listed, open_parts, may_feed}
use Rattle.source_pool.specs.Seen.{state_seen}
use Rattle.source_state.specs.Drawing.{told_by}
use Rattle.query_core.specs.Driving.{IsFedFrom}
use Rattle.query_run.specs.Advancing.{IsSourceIn}
use Rattle.query_run.specs.Looking.{FeedsFrom, IsReading, LooksOnce}
use Rattle.query_run.proofs.Looked.{IsDecidedBy, row_seen, grade_seen, SeesOn, name_on, feeds_later, feeds_still}

-- a query that reads, as one that is served by the states from which it was fed
served_by : (holds : List Hold) (q : RunningQuery) (states : List State) → IsReading holds q → FeedsFrom holds q states → q.refusal ≡ None → IsServed states q
served_by holds q states h feeds unrefused = record {
  sources = record {
    many = h.many;
    each = λ k d l.
        let is = h.each k d l in
        let long = feeds.long in
        let within : slice_index_or q.sources.items k d < length states = omega (arith, is.0, long) in
        (within, feeds.counted (slice_index_or q.sources.items k d) within);
  };
  run = h.run;
  drawn = feeds.fed;
  waits = λ n e. absurd (none_not_some (sym h.rests ∙ e));
  cause = subst (λ o. IsCause (state_at states (source_needed q)) (state_of q.machine) q.waiting.noted o) (sym unrefused) tt;
}

-- where the need of a query is looked for: at a source of the query, which is there
pub record Place (holds : List Hold) (q : RunningQuery) : Type 0 where
  pub listed : list_needed (needed q) < length q.sources.items
  pub there : source_needed q < length holds
  pub count : (hold_at holds (source_needed q)).pass.1.name.1 ≡ (state_of q.machine).log.count
  pub range : IsInRange (state_of q.machine).log (needed q)
  pub may : MayLookFor (hold_at holds (source_needed q)).pass.1 (needed q)

may_for : (t : MachineState) (n : Need) (known : Known LogEntry) → IsInRange t.log n → is_done n ≡ false → known.name.1 ≡ t.log.count → MayLookFor known n
may_for t (need.Row list depth) known range going count = let within = range.within in (range.from_one, omega (arith, within, count))
may_for t (need.Grade list object) known range going count = tt
may_for t need.Done known range going count = absurd (cc)

pub placed_at : (holds : List Hold) (q : RunningQuery) → IsReading holds q → is_ended q ≡ false → Place holds q
placed_at holds q h going =
    let parts = open_parts q going in
    let served = served_by holds q h.states h h.feeds parts.0 in
    let within = listed h.states q served.sources h.run parts.1 in
    let is = h.each (list_needed (needed q)) 0 within in
    let range = in_range (run_with (method_of q.machine)) (state_of q.machine) h.run in
    record {
      listed = within;
      there = is.0;
      count = is.1;
      range = range;
      may = may_for (state_of q.machine) (needed q) (hold_at holds (source_needed q)).pass.1 range parts.1 is.1;
    }

-- what is read of a query's sources at the list of its need
pub source_read : (holds : List Hold) (q : RunningQuery) (n : Need) (list source : ℕ) → Place holds q → n ≡ needed q → list ≡ list_needed n
    → source ≡ slice_index_or q.sources.items list source → source ≡ source_needed q
source_read holds q n list source place is at read =
    let here : list ≡ list_needed (needed q) = at ∙ ap list_needed is in
    let within : list < length q.sources.items = subst (λ l. l < length q.sources.items) (sym here) place.listed in
    get_or_read q.sources.items list source within read 0 ∙ ap (λ l. slice_index_or q.sources.items l 0) here

-- a look at a source, by what its calls promise
pub sees_on : (source : ℕ) (before after : List Hold) → length after ≡ length before → OthersStay source before after
    → KnowsOn (hold_at before source).pass.1 (hold_at after source).pass.1 → SeesOn source before after
sees_on source before after long others knows = record { long = long; follows = knows.follows; name = knows.name; others = others }

-- what the query waits for itself stays nothing
over_none : (w : Waiting) → w.need ≡ None → w ≡ record w { need = None }
over_none w e = ap (λ n. record { need = n; noted = w.noted }) e

pub there_too : (holds : List Hold) (q : RunningQuery) → (h : IsReading holds q) → Place holds q → source_needed q < length h.states
there_too holds q h place = let long = h.feeds.long in let there = place.there in omega (arith, long, there)

-- what a look answers, as a look at the state that the pass sees
pub decided_looks : (states : List State) (source : ℕ) (n : Need) (u : State) (waiting left : Waiting) (answer : Look)
    → source < length states → IsDecidedBy n u answer → waiting.need ≡ None → left ≡ waiting
    → IsDecided n (state_at (slice_set states source u) source) (state_at (slice_set states source u) source) waiting left answer
decided_looks states source n u waiting left answer l by rests same = record {
  decides = subst (λ s. decided s n ≡ Some answer) (sym (state_set states source u l)) by.decides;
  ends = record { same = refl; over = same ∙ over_none waiting rests };
}

-- a query reads on through the pass
still_reads : (source : ℕ) (before after : List Hold) (q : RunningQuery) (states : List State) → SeesOn source before after → IsReading before q
    → FeedsFrom after q states
    → IsReading after q
still_reads source before after q states on h feeds = record {
  many = h.many;
  each = λ k d l.
      let is = h.each k d l in
      let long = on.long in
      (omega (arith, is.0, long), ap (λ (name : ℕ × ℕ). name.1) (name_on source (slice_index_or q.sources.items k d) before after on) ∙ is.1);
  run = h.run;
  rests = h.rests;
  states = states;
  feeds = feeds;
}

-- the states from which a query is fed after a look that decided its need
pub record Fresh (before after : List Hold) (q : RunningQuery) (states : List State) : Type 0 where
  pub feeds : FeedsFrom after q states
  pub served : IsServed states q
  pub seen : state_at states (source_needed q) ≡ state_seen (hold_at after (source_needed q)).pass.1

pub fresh : (before after : List Hold) (q : RunningQuery) → (h : IsReading before q) → q.refusal ≡ None → Place before q → SeesOn (source_needed q) before after
    → IsSound (state_seen (hold_at after (source_needed q)).pass.1)
    → Fresh before after q (slice_set h.states (source_needed q) (state_seen (hold_at after (source_needed q)).pass.1))
fresh before after q h unrefused place on sound =
    let s = source_needed q in
    let u = state_seen (hold_at after s).pass.1 in
    let states = slice_set h.states s u in
    let feeds = feeds_later s before after q h.states on h.feeds place.there sound place.count h.many in
    record {
      feeds = feeds;
      served = served_by after q states (still_reads s before after q states on h feeds) feeds unrefused;
      seen = state_set h.states s u (there_too before q h place);
    }

-- what a look answers may be fed
pub look_may : (before after : List Hold) (q : RunningQuery) (answer : Look) → IsReading before q → is_ended q ≡ false → SeesOn (source_needed q) before after
    → IsLook (needed q) (hold_at before (source_needed q)) (hold_at after (source_needed q)) answer → MayFeed (state_of q.machine) answer
look_may before after q (look.Row row) h going on looks =
    let s = source_needed q in
    let by = row_seen (needed q) (hold_at before s) (hold_at after s) row looks in
    let place = placed_at before q h going in
    let f = fresh before after q h (open_parts q going).0 place on by.sound in
    let states = slice_set h.states s (state_seen (hold_at after s).pass.1) in
    may_feed states q (state_at states s) q.waiting (look.Row row) f.feeds.sound f.served
    (decided_looks h.states s (needed q) (state_seen (hold_at after s).pass.1) q.waiting q.waiting (look.Row row) (there_too before q h place) by h.rests refl)
look_may before after q (look.Grade grade) h going on looks =
    let s = source_needed q in
    let by = grade_seen (needed q) (hold_at before s) (hold_at after s) grade looks in
    let place = placed_at before q h going in
    let f = fresh before after q h (open_parts q going).0 place on by.sound in
    let states = slice_set h.states s (state_seen (hold_at after s).pass.1) in
    may_feed states q (state_at states s) q.waiting (look.Grade grade) f.feeds.sound f.served
    (decided_looks h.states s (needed q) (state_seen (hold_at after s).pass.1) q.waiting q.waiting (look.Grade grade) (there_too before q h place) by h.rests refl)
look_may before after q look.NotYet h going on looks = tt
look_may before after q (look.Fault fault) h going on looks = tt

-- a look for a need at a source, by what the pool promises of it
pub record LookedAt (n : Need) (source : ℕ) (before after : List Hold) (answer : Look) : Type 0 where
  pub others : OthersStay source before after
  pub look : IsLook n (hold_at before source) (hold_at after source) answer
  pub waits : Waits n (hold_at before source) (hold_at after source) answer
  pub said : Rattle.source_pool.specs.Looks.Answers n (hold_at before source) (hold_at after source) answer
  pub shown : (hold_at after source).shown ≡ shown_by answer (hold_at before source).shown
  pub knows : KnowsOn (hold_at before source).pass.1 (hold_at after source).pass.1
  pub within : IsWithin (hold_at before source) → IsWithin (hold_at after source)

-- it is the look for what the query needs
pub at_need : (before after : List Hold) (q : RunningQuery) (n : Need) (list source : ℕ) (answer : Look) → IsReading before q → is_ended q ≡ false → n ≡ needed q
    → list ≡ list_needed n → source ≡ slice_index_or q.sources.items list source → LookedAt n source before after answer
    → LookedAt (needed q) (source_needed q) before after answer
at_need before after q n list source answer h going is at read looked =
    let here = source_read before q n list source (placed_at before q h going) is at read in
    subst (λ m. LookedAt m (source_needed q) before after answer) is (subst (λ s. LookedAt n s before after answer) here looked)

pub looked_may : (before after : List Hold) (q : RunningQuery) (answer : Look) → IsReading before q → is_ended q ≡ false → length after ≡ length before
    → LookedAt (needed q) (source_needed q) before after answer → MayFeed (state_of q.machine) answer
looked_may before after q answer h going long looked = look_may before after q answer h going (sees_on (source_needed q) before after long looked.others looked.knows) looked.look

pub looks_once : (before after : List Hold) (q r : RunningQuery) (answer : Look) → LookedAt (needed q) (source_needed q) before after answer → Answers q r answer
    → MakesItsRun r.machine → method_of r.machine ≡ method_of q.machine → r.sources.items ≡ q.sources.items → r.waiting ≡ q.waiting
    → LooksOnce before after q r
looks_once before after q r answer looked answers run same sources waiting = record {
  answer = answer;
  look = looked.look;
  waits = looked.waits;
  said = looked.said;
  shown = looked.shown;
  knows = looked.knows;
  within = looked.within;
  others = looked.others;
  sources = sources;
  method = same;
  waiting = waiting;
  run = run;
  answers = answers;
}

-- a query whose machine stays reads on
reading_same : (holds : List Hold) (q r : RunningQuery) → IsReading holds q → r.sources.items ≡ q.sources.items → r.machine ≡ q.machine → r.waiting ≡ q.waiting
    → IsReading holds r
reading_same holds q r h sources machine waiting =
    let each : All (IsSourceIn holds (state_of q.machine).log.count) r.sources.items = subst (All (IsSourceIn holds (state_of q.machine).log.count)) (sym sources) h.each in
    let fed : IsFedFrom (told_by (logs_of h.states r.sources.items)) (state_of q.machine)
    = subst (λ xs. IsFedFrom (told_by (logs_of h.states xs)) (state_of q.machine)) (sym sources) h.feeds.fed in
    record {
      many = ap (length {A = ℕ}) sources ∙ h.many ∙ ap (λ m. (state_of m).log.lists) (sym machine);
      each = subst (λ m. All (IsSourceIn holds (state_of m).log.count) r.sources.items) (sym machine) each;
      run = subst MakesItsRun (sym machine) h.run;
      rests = ap (λ (w : Waiting). w.need) waiting ∙ h.rests;
      states = h.states;
      feeds = record {
        long = h.feeds.long;
        sound = h.feeds.sound;
        counted = λ source l. h.feeds.counted source l ∙ ap (λ m. (state_of m).log.count) (sym machine);
        seen = h.feeds.seen;
        fed = subst (λ m. IsFedFrom (told_by (logs_of h.states r.sources.items)) (state_of m)) (sym machine) fed;
      };
    }

-- what isn't there yet, is of a source that is there, refuses nothing, and the query reads on
pub missing_there : (missing : Option (ℕ × ℕ)) (source n : ℕ) (before after : List Hold) (answer : Look) (q r : RunningQuery) → source < n → IsReading before q
    → SeesOn (source_needed q) before after → r.sources.items ≡ q.sources.items → r.waiting ≡ q.waiting
    → IfSome missing (λ (m : ℕ × ℕ). (m.0 ≡ source) × (answer ≡ look.NotYet)) → Answers q r answer
    → IfSome missing (λ (m : ℕ × ℕ). (m.0 < n) × (r.refusal ≡ None) × IsReading after r)
missing_there None source n before after answer q r l h on sources waiting is answers = tt
missing_there (Some m) source n before after answer q r l h on sources waiting is answers =
    let there = is.0 in
    let stays = subst (Answers q r) is.1 answers in (
      omega (arith, l, there),
      stays.0,
      reading_same after q r (still_reads (source_needed q) before after q h.states on h (feeds_still (source_needed q) before after q h.states on h.feeds)) sources stays.1 waiting,
    )
