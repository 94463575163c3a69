-- What a turn of a look makes of the pass.
use Rattle.std.proofs.Common.{◌≡◌, ◌≢◌, ◌≤◌, ◌<◌, ◌+◌, ◌-◌, ◌⊎◌, inl, inr, ℕ, true, false, cond, max, Option, Some, None, List, [], ◌∷◌, ◌++◌, length, drop, nat_lt, Contains, refl, sym, ap, subst, ◌∙◌, arith, le_refl, le_trans, append-nil}
use Rattle.std.proofs.lemmas.Bool.{cases_Bool, le-ltb, ltb-true}
use Rattle.std.proofs.lemmas.List.{length_push}
use Rattle.std.proofs.lemmas.List.Elements.{Contains-append_left}
use Rattle.std.proofs.Math.Seq.{drop-length, drop-append_seam}
use Rattle.std.specs.Option.{IfSome}
use Rattle.atomic_table.specs.Seated.{TableId}
use Rattle.ranked_list.specs.declared.row.Row.{Row}
use Rattle.ranked_list.specs.declared.need.Need.{Need}
use Rattle.ranked_list.specs.declared.need.Need.TheVariants as need
use Rattle.turn_lock.specs.declared.facts.Tally.{Tally}
use Rattle.turn_lock.specs.declared.facts.Facts.{Facts}
use Rattle.turn_lock.specs.declared.known.Known.{Known}
use Rattle.turn_lock.specs.Facts.{IsFrontOf, AtMost, FactsGrow, AreFactsKept}
use Rattle.turn_lock.specs.Known.{KnowsOf, raised, holding, after_turn}
use Rattle.turn_lock.proofs.Growth.{begins_same, at_most_same, begins_on, at_most_on}
use Rattle.source_state.specs.declared.ask.Ask.{Ask}
use Rattle.source_state.specs.declared.entry.LogEntry.{LogEntry}
use Rattle.source_api.specs.declared.source.FailKind.{FailKind}
use Rattle.source_api.specs.declared.source.FailKind.TheVariants as kind
use Rattle.source_state.specs.declared.look.Waiting.{Waiting}
use Rattle.source_state.specs.declared.look.Look.{Look}
use Rattle.source_state.specs.declared.look.Look.TheVariants as look
use Rattle.source_state.specs.declared.look.LookFault.TheVariants as why
use Rattle.source_state.specs.Asks.{ask_of}
use Rattle.source_state.specs.State.{State, asks_of, first_pending, due_by, facts_of, IsSound}
use Rattle.source_state.specs.Events.{one_asked, one_more, counted, count_of}
use Rattle.source_state.specs.Looking.{is_same, waits_for, told, decided, is_full, called, Looks, MayLook}
use Rattle.source_state.specs.Looking as looking
use Rattle.source_state.proofs.Lists.{eqb_same, none_not_some}
use Rattle.source_state.proofs.AskLaws.{ask_missing}
use Rattle.source_state.proofs.Counting.{told_more}
use Rattle.source_pool.specs.declared.hold.Hold.{Hold}
use Rattle.source_pool.specs.Looks.{said_in, MayLookFor, HasNoRoom, told_of, Answers, KeepsMarks, KeepsAsks, AddsAsk, HasCalled, GoesOn, BeginsToWait, Ends, Waits, shown_by, KnowsOn, rested, IsGlance, IsTurn, IsWithin}
use Rattle.source_pool.specs.Holds.{SourcePass}
use Rattle.source_pool.specs.Seen.{state_seen}
use Rattle.source_state.specs.Log.{rows_in}
use Rattle.source_pool.specs.declared.remembered.Remembered.{Remembered}
use Rattle.source_pool.specs.Windows.{row_held, window_after, IsInReach, IsWindowOf}
use Rattle.source_pool.specs.Remembering.{IsHeld, AreSettled, Remembers}
use Rattle.source_pool.proofs.WindowLaws.{window_left}
use Rattle.source_pool.proofs.RememberLaws.{settled_on, held_answer}
use Rattle.source_pool.proofs.SaidLaws.{said_is, full_parts, full_from, asked_member}

-- a turn of a look, and what the calls in it promise
pub record Turned (need : Need) (before after : Hold) (answer : Look) : Type 0 where
  pub turn : IsTurn need before after answer
  pub may : MayLookFor before.pass.1 need
  pub found : IsSound turn.found
  pub grows : FactsGrow (facts_of turn.found) (facts_of turn.left)
  pub keeps : AreFactsKept (facts_of turn.found) (facts_of turn.left)
  pub shown : after.shown ≡ shown_by answer before.shown

-- a depth of the list is one of the state
pub may_look : (s : State) (known : Known LogEntry) (n : Need) → (s.list, s.count) ≡ known.name → MayLookFor known n → MayLook s n
may_look s known (need.Row list depth) name may = (may.0, subst (λ c. depth ≤ c) (sym (ap (λ (p : ℕ × ℕ). p.1) name)) may.1)
may_look s known (need.Grade list object) name may = tt
may_look s known need.Done name may = may

-- what the pass knows after the turn
seen_is : {n : Need} {before after : Hold} {answer : Look} → (t : Turned n before after answer) → after.pass.1.seen ≡ t.turn.found.log
seen_is t = ap (λ (k : Known LogEntry). k.seen) t.turn.gave ∙ t.keeps.log

tally_is : {n : Need} {before after : Hold} {answer : Look} → (t : Turned n before after answer) → after.pass.1.tally ≡ t.turn.found.tally
tally_is t = ap (λ (k : Known LogEntry). k.tally) t.turn.gave ∙ t.keeps.tally

met_is : {n : Need} {before after : Hold} {answer : Look} → (t : Turned n before after answer) → after.pass.1.met ≡ t.turn.left.asks
met_is t = ap (λ (k : Known LogEntry). k.met) t.turn.gave

count_is : {n : Need} {before after : Hold} {answer : Look} → (t : Turned n before after answer) → t.turn.found.count ≡ after.pass.1.name.1
count_is t = ap (λ (p : ℕ × ℕ). p.1) (t.turn.agrees.name ∙ sym (ap (λ (k : Known LogEntry). k.name) t.turn.gave))

said_now : {n : Need} {before after : Hold} {answer : Look} → (t : Turned n before after answer) → said_in after.pass.1.seen n ≡ decided t.turn.found n
said_now {n = n} t = ap (λ log. said_in log n) (seen_is t) ∙ said_is t.turn.found n t.found

told_now : {n : Need} {before after : Hold} {answer : Look} → (t : Turned n before after answer)
    → told_of n before after ≡ told before.waiting n t.turn.found.tally
told_now {n = n} {before = before} t = ap (λ now. told before.waiting n now) (tally_is t)

-- no room is left
pub no_room : (n : Need) (known : Known LogEntry) (s : State) → known.met ≡ s.asks → s.count ≡ known.name.1 → is_full s n ≡ true → HasNoRoom known n
no_room (need.Row list depth) known s met count full = absurd (let bad : false ≡ true = full in cc)
no_room (need.Grade list object) known s met count full =
    let parts = full_parts s list object full in
    record { all = ap length met ∙ parts.0 ∙ count; absent = λ c. parts.1 (subst (λ os. Contains os object) met c) }
no_room need.Done known s met count full = absurd (let bad : false ≡ true = full in cc)

-- some room is left
room_on : (n : Need) (known : Known LogEntry) (s : State) → known.met ≡ s.asks → s.count ≡ known.name.1 → is_full s n ≡ false → HasNoRoom known n → ⊥
room_on (need.Row list depth) known s met count free out = out
room_on (need.Grade list object) known s met count free out =
    let full : is_full s (need.Grade list object) ≡ true = full_from s list object (sym (ap length met) ∙ out.all ∙ sym count) (λ c. out.absent (subst (λ os. Contains os object) (sym met) c)) in
    let bad : true ≡ false = sym full ∙ free in absurd (cc)
room_on need.Done known s met count free out = out

pub room_begun : (n : Need) (known : Known LogEntry) (s : State) → known.met ≡ (called s n).asks → HasNoRoom known n → ⊥
room_begun (need.Row list depth) known s met out = out
room_begun (need.Grade list object) known s met out = out.absent (subst (λ os. Contains os object) (sym met) (asked_member s object))
room_begun need.Done known s met out = out

-- a need that is noted is waited for
waits_same : (n : Need) (known : Known LogEntry) → MayLookFor known n → is_same n n ≡ true
waits_same (need.Row list depth) known may = eqb_same depth
waits_same (need.Grade list object) known may = eqb_same object
waits_same need.Done known may = absurd may

-- what a look answers
pub answers : (n : Need) (before after : Hold) (answer : Look) → Turned n before after answer → Answers n before after answer
answers n before after (look.Row row) t = record { says = said_now t ∙ t.turn.looks.decides }
answers n before after (look.Grade grade) t = record { says = said_now t ∙ t.turn.looks.decides }
answers n before after look.NotYet t = record {
  undecided = said_now t ∙ t.turn.looks.undecided;
  untold = told_now t ∙ t.turn.looks.untold;
  room = elim t.turn.looks.waits [
    | inl on ↦ room_on n after.pass.1 t.turn.found (met_is t ∙ ap (λ (s : State). s.asks) on.same) (count_is t) t.turn.looks.room
    | inr begins ↦ room_begun n after.pass.1 t.turn.found (met_is t ∙ ap (λ (s : State). s.asks) begins.calls)
  ];
  waits = elim t.turn.looks.waits [
    | inl on ↦ ap (λ (w : Waiting). waits_for w.need n) on.goes_on ∙ on.waits
    | inr begins ↦ ap (λ (w : Waiting). waits_for w.need n) begins.notes ∙ waits_same n before.pass.1 t.may
  ];
}
answers n before after (look.Fault (why.Source fault)) t = record { says = said_now t ∙ t.turn.looks.decides }
answers n before after (look.Fault (why.Missing object)) t = record { says = said_now t ∙ t.turn.looks.decides }
answers n before after (look.Fault (why.AsksFull kept)) t = record {
  undecided = said_now t ∙ t.turn.looks.undecided;
  untold = told_now t ∙ t.turn.looks.untold;
  full = no_room n after.pass.1 t.turn.found (met_is t ∙ ap (λ (s : State). s.asks) t.turn.looks.ends.same) (count_is t) t.turn.looks.full;
  all = t.turn.looks.all ∙ sym (ap (λ (s : State). length s.asks) t.turn.looks.ends.same) ∙ sym (ap length (met_is t));
}
answers n before after (look.Fault (why.Call what)) t = record { undecided = said_now t ∙ t.turn.looks.undecided; tells = told_now t ∙ t.turn.looks.tells }

-- a turn that leaves the mark and the asks leaves what the pass raised and added
not_raised : (mark high : ℕ) → raised mark mark high ≡ high
not_raised mark high = ap (λ b. cond b mark high) (le-ltb mark mark (le_refl mark))

-- where a turn leaves the asks, it adds none
none_new : (mine asks left : List ℕ) → left ≡ asks → mine ++ drop (length asks) left ≡ mine
none_new mine asks left same = ap (λ (l : List ℕ). mine ++ drop (length asks) l) same ∙ (ap (λ (l : List ℕ). mine ++ l) (drop-length asks) ∙ append-nil mine)

pub marks_kept : (f g : Facts LogEntry) (k : Known LogEntry) → g.mark ≡ f.mark → g.asks ≡ f.asks → KeepsMarks k (after_turn f g k)
marks_kept f g k mark asks = record {
  high = ap (λ m. raised f.mark m k.high) mark ∙ not_raised f.mark k.high;
  asked = let same : length g.asks ≡ length f.asks = ap length asks in omega arith;
  mine = none_new k.mine f.asks g.asks asks;
}

marks_same : {n : Need} {before after : Hold} {answer : Look} → (t : Turned n before after answer) → t.turn.left ≡ t.turn.found
    → KeepsMarks before.pass.1 after.pass.1
marks_same {before = before} t same =
    subst (KeepsMarks before.pass.1) (sym t.turn.gave)
    (marks_kept (facts_of t.turn.found) (facts_of t.turn.left) before.pass.1 (ap (λ (s : State). s.want) same) (ap (λ (s : State). s.asks) same))

ends : {n : Need} {before after : Hold} {answer : Look} → (t : Turned n before after answer)
    → looking.Ends t.turn.found t.turn.left before.waiting after.waiting → Ends before after
ends t e = record { over = e.over; marks = marks_same t e.same }

-- something is due where the state isn't paused
due_awake : (pending : Option ℕ) → due_by false pending ≢ 0
due_awake None e = omega arith
due_awake (Some object) e = omega arith

awake : (n : Need) (s : State) (known : Known LogEntry) → MayLookFor known n → due_by (called s n).paused (first_pending (called s n)) ≢ 0
awake (need.Row list depth) s known may = due_awake (first_pending (called s (need.Row list depth)))
awake (need.Grade list object) s known may = due_awake (first_pending (called s (need.Grade list object)))
awake need.Done s known may = absurd may

-- the want of a row raises the mark to its depth at most
raised_to : (want depth high : ℕ) → raised want (max want depth) high ≤ max high depth
raised_to want depth high = elim (cases_Bool (nat_lt want (max want depth))) [
  | inl t ↦ let below : want < max want depth = ltb-true want (max want depth) t in
      subst (λ b. cond b (max want depth) high ≤ max high depth) (sym t) (omega arith)
  | inr f ↦ subst (λ b. cond b (max want depth) high ≤ max high depth) (sym f) (omega arith)
]

-- the ask of an object that wasn't asked is the one that is added
asks_added : (found : Option Ask) (object : ℕ) (asks : List ℕ) (k after : Known LogEntry) → after.asked ≡ k.asked + (length (one_asked found object asks) - length asks)
    → after.mine ≡ k.mine ++ drop (length asks) (one_asked found object asks) → (found ≡ None → ¬ Contains k.met object)
    → KeepsAsks k after ⊎ AddsAsk object k after
asks_added None object asks k after asked mine fresh = inr (record {
  asked = let e = length_push asks object in omega (arith, e, asked);
  mine = mine ∙ ap (λ (l : List ℕ). k.mine ++ l) (drop-append_seam asks (object ∷ []));
  unmet = fresh refl;
})
asks_added (Some ask) object asks k after asked mine fresh = inl (record {
  asked = omega (arith, asked);
  mine = mine ∙ none_new k.mine asks asks refl;
})

-- what isn't asked wasn't met
unmet : (s : State) (met : List ℕ) (object : ℕ) → IsFrontOf met s.asks → ask_of (asks_of s) object ≡ None → ¬ Contains met object
unmet s met object front none c =
    ask_missing s.log s.asks object none (subst (λ asks. Contains asks object) (sym front.goes_on) (Contains-append_left met front.rest object c))

pub has_called : (n : Need) (s : State) (k : Known LogEntry) → MayLookFor k n → IsFrontOf k.met s.asks
    → HasCalled n k (after_turn (facts_of s) (facts_of (called s n)) k)
has_called (need.Row list depth) s k may front = record {
  wanted = omega arith;
  high = raised_to s.want depth k.high;
  asked = omega arith;
  mine = none_new k.mine s.asks s.asks refl;
}
has_called (need.Grade list object) s k may front = record {
  asks = asked_member s object;
  high = not_raised s.want k.high;
  added = asks_added (ask_of (asks_of s) object) object s.asks k (after_turn (facts_of s) (facts_of (called s (need.Grade list object))) k) refl refl (unmet s k.met object front);
}
has_called need.Done s k may front = absurd may

begins_to_wait : {n : Need} {before after : Hold} {answer : Look} → (t : Turned n before after answer)
    → looking.BeginsWaiting n t.turn.found t.turn.left before.waiting after.waiting → BeginsToWait n before after
begins_to_wait {n = n} {before = before} {after = after} t b =
    let given : after.pass.1 ≡ after_turn (facts_of t.turn.found) (facts_of (called t.turn.found n)) before.pass.1 =
    t.turn.gave ∙ ap (λ s. after_turn (facts_of t.turn.found) (facts_of s) before.pass.1) b.calls in
    record {
      fresh = b.fresh;
      notes = b.notes ∙ ap (λ tally. noting n tally) (sym (ap (λ (k : Known LogEntry). k.tally) t.turn.gave));
      awake = λ e. awake n t.turn.found before.pass.1 t.may (sym (ap (λ (k : Known LogEntry). k.sight.due) given) ∙ e);
      called = subst (HasCalled n before.pass.1) (sym given) (has_called n t.turn.found before.pass.1 t.may t.turn.agrees.past.met);
    }
  where
    noting : Need → Tally → Waiting
    noting n tally = record { need = Some n; noted = tally }

-- what a look leaves waiting
pub waits : (n : Need) (before after : Hold) (answer : Look) → Turned n before after answer → Waits n before after answer
waits n before after (look.Row row) t = ends t t.turn.looks.ends
waits n before after (look.Grade grade) t = ends t t.turn.looks.ends
waits n before after look.NotYet t = elim t.turn.looks.waits [
  | inl on ↦ inl (record { waits = on.waits; same = on.goes_on; marks = marks_same t on.same })
  | inr begins ↦ inr (begins_to_wait t begins)
]
waits n before after (look.Fault (why.Source fault)) t = ends t t.turn.looks.ends
waits n before after (look.Fault (why.Missing object)) t = ends t t.turn.looks.ends
waits n before after (look.Fault (why.AsksFull kept)) t = ends t t.turn.looks.ends
waits n before after (look.Fault (why.Call what)) t = ends t t.turn.looks.ends

-- what a turn leaves of the pass
pub knows_on : (n : Need) (before after : Hold) (answer : Look) → Turned n before after answer → KnowsOn before.pass.1 after.pass.1
knows_on n before after answer t =
    subst (KnowsOn before.pass.1) (sym t.turn.gave)
    (record {
      follows = record {
        seen = begins_on t.turn.agrees.past.seen t.grows.log;
        met = begins_on t.turn.agrees.past.met t.grows.asks;
        tally = at_most_on t.turn.agrees.past.tally t.grows.tally;
      };
      name = refl;
      parts = refl;
      writer = refl;
    })

-- what was shown stays within what the pass knows
need_there : (o : Option Need) (n : Need) → waits_for o n ≡ true → o ≢ None
need_there None n e = λ _. let bad : false ≡ true = e in absurd (cc)
need_there (Some need) n e = λ none. none_not_some (sym none)

one_told : (shown noted now : ℕ) → shown ≤ noted → noted < now → one_more shown ≤ now
one_told shown noted now a b = omega arith

counts_told : (what : FailKind) (shown noted known now : Tally) → AtMost shown noted → AtMost shown known → AtMost known now
    → count_of what noted < count_of what now → AtMost (counted what shown) now
counts_told kind.Failed shown noted known now a b c more = record { failed = one_told shown.failed noted.failed now.failed a.failed more; garbled = le_trans b.garbled c.garbled; memory = le_trans b.memory c.memory }
counts_told kind.Garbled shown noted known now a b c more = record { failed = le_trans b.failed c.failed; garbled = one_told shown.garbled noted.garbled now.garbled a.garbled more; memory = le_trans b.memory c.memory }
counts_told kind.Memory shown noted known now a b c more = record { failed = le_trans b.failed c.failed; garbled = le_trans b.garbled c.garbled; memory = one_told shown.memory noted.memory now.memory a.memory more }

record Left (before after : Hold) : Type 0 where
  pub tally : AtMost before.pass.1.tally after.pass.1.tally
  pub within : IsWithin before

no_more_waits : (before after : Hold) → after.waiting ≡ record before.waiting { need = None } → after.waiting.need ≢ None
    → AtMost after.shown after.waiting.noted
no_more_waits before after over some = absurd (some (ap (λ (w : Waiting). w.need) over))

unshown : (before after : Hold) → Left before after → after.shown ≡ before.shown → AtMost after.shown after.pass.1.tally
unshown before after h same = subst (λ shown. AtMost shown after.pass.1.tally) (sym same) (at_most_on h.within.shown h.tally)

one_shown : (n : Need) (what : FailKind) (before after : Hold) → Left before after → after.shown ≡ counted what before.shown
    → told_of n before after ≡ Some what → AtMost after.shown after.pass.1.tally
one_shown n what before after h shown tells =
    let more = told_more before.waiting n after.pass.1.tally what tells in
    subst (λ s. AtMost s after.pass.1.tally) (sym shown)
    (counts_told what before.shown before.waiting.noted before.pass.1.tally after.pass.1.tally (h.within.noted (need_there before.waiting.need n more.0)) h.within.shown h.tally more.1)

waiting_on : (n : Need) (before after : Hold) → Left before after → after.shown ≡ before.shown → GoesOn n before after ⊎ BeginsToWait n before after
    → after.waiting.need ≢ None → AtMost after.shown after.waiting.noted
waiting_on n before after h same (inl on) some =
    let was : before.waiting.need ≢ None = λ none. some (ap (λ (w : Waiting). w.need) on.same ∙ none) in
    subst (λ (w : Waiting). AtMost after.shown w.noted) (sym on.same) (subst (λ s. AtMost s before.waiting.noted) (sym same) (h.within.noted was))
waiting_on n before after h same (inr begins) some = subst (λ (w : Waiting). AtMost after.shown w.noted) (sym begins.notes) (unshown before after h same)

by_answer : (n : Need) (before after : Hold) (answer : Look) → Left before after → after.shown ≡ shown_by answer before.shown → Answers n before after answer
    → Waits n before after answer → IsWithin after
by_answer n before after (look.Row row) h shown a w = record { shown = unshown before after h shown; noted = no_more_waits before after w.over }
by_answer n before after (look.Grade grade) h shown a w = record { shown = unshown before after h shown; noted = no_more_waits before after w.over }
by_answer n before after look.NotYet h shown a w = record { shown = unshown before after h shown; noted = waiting_on n before after h shown w }
by_answer n before after (look.Fault (why.Source fault)) h shown a w = record { shown = unshown before after h shown; noted = no_more_waits before after w.over }
by_answer n before after (look.Fault (why.Missing object)) h shown a w = record { shown = unshown before after h shown; noted = no_more_waits before after w.over }
by_answer n before after (look.Fault (why.AsksFull kept)) h shown a w = record { shown = unshown before after h shown; noted = no_more_waits before after w.over }
by_answer n before after (look.Fault (why.Call what)) h shown a w = record { shown = one_shown n what before after h shown a.tells; noted = no_more_waits before after w.over }

pub within : (n : Need) (before after : Hold) (answer : Look) → Turned n before after answer → IsWithin before → IsWithin after
within n before after answer t h =
    by_answer n before after answer (record { tally = (knows_on n before after answer t).follows.tally; within = h }) t.shown (answers n before after answer t) (waits n before after answer t)

-- what a give promises of a pass that had the turn
abbrev Given : TableId → Facts LogEntry → SourcePass → SourcePass → Type 0
Given table given after mid = IfSome mid.1.held (λ f. ◌≡◌ {A = SourcePass} after (table, after_turn f given mid.1))

-- the pass after the give
pub given_is : (table : TableId) (known : Known LogEntry) (taken given : Facts LogEntry) (mid after : SourcePass)
    → ◌≡◌ {A = SourcePass} mid (table, holding taken known)
    → IfSome mid.1.held (λ f. ◌≡◌ {A = SourcePass} after (table, after_turn f given mid.1)) → ◌≡◌ {A = SourcePass} after (table, after_turn taken given known)
given_is table known taken given mid after e h = subst (Given table given after) e h

-- what the pass has seen then
pub seen_given : (table : TableId) (known : Known LogEntry) (found left : State) (mid after : SourcePass) → ◌≡◌ {A = SourcePass} mid (table, holding (facts_of found) known)
    → IfSome mid.1.held (λ f. ◌≡◌ {A = SourcePass} after (table, after_turn f (facts_of left) mid.1)) → after.1.seen ≡ left.log
seen_given table known found left mid after took gave = ap (λ (p : SourcePass). p.1.seen) (given_is table known (facts_of found) (facts_of left) mid after took gave)

-- a turn of a look, by what the calls in it ensure
pub turned_by : (n : Need) (before : Hold) (table : TableId) (found left : State) (mid after : SourcePass) (waiting : Waiting) (shown : Tally) (remembered : Remembered) (answer : Look)
    → row_held before.remembered.rows n ≡ None → remembered.rows ≡ window_after answer n (rows_in left.log) before.remembered.rows
    → MayLookFor before.pass.1 n → KnowsOf (facts_of found) before.pass.1 → IsSound found → IsSound left → Looks n found left before.waiting waiting answer
    → FactsGrow (facts_of found) (facts_of left) → AreFactsKept (facts_of found) (facts_of left) → ◌≡◌ {A = SourcePass} mid (table, holding (facts_of found) before.pass.1)
    → IfSome mid.1.held (λ f. ◌≡◌ {A = SourcePass} after (table, after_turn f (facts_of left) mid.1)) → shown ≡ shown_by answer before.shown
    → Turned n before (record { pass = after; waiting = waiting; shown = shown; remembered = remembered }) answer
turned_by n before table found left mid after waiting shown remembered answer unheld fills may agrees sound sound_left looks grows keeps took gave same =
    let is = given_is table before.pass.1 (facts_of found) (facts_of left) mid after took gave in
    record {
      turn = record {
        unheld = unheld;
        found = found;
        left = left;
        agrees = agrees;
        looks = looks;
        gave = ap (λ (p : SourcePass). p.1) is;
        sound = sound_left;
        fills = fills ∙ ap (λ (p : SourcePass). window_after answer n (rows_in p.1.seen) before.remembered.rows) (sym is);
      };
      may = may;
      found = sound;
      grows = grows;
      keeps = keeps;
      shown = same;
    }

-- a depth of the list is one that a list may have
pub in_reach : (n : Need) (known : Known LogEntry) (s : State) → MayLookFor known n → (s.list, s.count) ≡ known.name → IsSound s → IsInReach n
in_reach (need.Row list depth) known s may name sound =
    let count : s.count ≡ known.name.1 = ap (λ (p : ℕ × ℕ). p.1) name in
    let small = sound.small in
    (may.0, omega (arith, may.1, count, small))
in_reach (need.Grade list object) known s may name sound = tt
in_reach need.Done known s may name sound = absurd may

-- after a turn what is remembered is of what the pass has seen, if grades that the state that was left had settled stay so
pub remembers_turned : (n : Need) (before after : Hold) (answer : Look) (log : List LogEntry) → Turned n before after answer → after.pass.1.seen ≡ log
    → Remembers before.pass.1.seen before.remembered → (AreSettled log before.remembered.grades → AreSettled log after.remembered.grades)
    → Remembers after.pass.1.seen after.remembered
remembers_turned n before after answer log t seen h keeps =
    let goes = (knows_on n before after answer t).follows.seen in
    record {
      rows = subst (IsWindowOf (rows_in after.pass.1.seen)) (sym t.turn.fills)
          (window_left answer n before.pass.1.seen after.pass.1.seen before.remembered.rows goes
          (in_reach n before.pass.1 t.turn.found t.may t.turn.agrees.name t.found) h.rows);
      grades = subst (λ l. AreSettled l after.remembered.grades) (sym seen)
          (keeps (subst (λ l. AreSettled l before.remembered.grades) seen (settled_on before.pass.1.seen after.pass.1.seen before.remembered.grades goes h.grades)));
    }

-- a look that what is remembered answers
pub glanced : (n : Need) (before : Hold) (answer : Look) → IsSound (state_seen before.pass.1) → Remembers before.pass.1.seen before.remembered
    → IsHeld before.remembered n answer → IsGlance n before (rested before) answer
glanced n before answer sound remembers held = record {
  held = held;
  decides = held_answer (state_seen before.pass.1) n before.remembered answer sound remembers held;
  sound = sound;
  same = refl;
}

glance_said : (n : Need) (before : Hold) (answer : Look) → IsGlance n before (rested before) answer → said_in before.pass.1.seen n ≡ Some answer
glance_said n before answer glance = said_is (state_seen before.pass.1) n glance.sound ∙ glance.decides

pub glance_answers : (n : Need) (before : Hold) (answer : Look) → IsGlance n before (rested before) answer → Answers n before (rested before) answer
glance_answers n before (look.Row row) glance = record { says = glance_said n before (look.Row row) glance }
glance_answers n before (look.Grade grade) glance = record { says = glance_said n before (look.Grade grade) glance }
glance_answers n before look.NotYet glance = absurd glance.held
glance_answers n before (look.Fault fault) glance = absurd glance.held

pub glance_waits : (n : Need) (before : Hold) (answer : Look) → IsGlance n before (rested before) answer → Waits n before (rested before) answer
glance_waits n before (look.Row row) glance = record { over = refl; marks = record { high = refl; asked = refl; mine = refl } }
glance_waits n before (look.Grade grade) glance = record { over = refl; marks = record { high = refl; asked = refl; mine = refl } }
glance_waits n before look.NotYet glance = absurd glance.held
glance_waits n before (look.Fault fault) glance = absurd glance.held

pub glance_shown : (n : Need) (before : Hold) (answer : Look) → IsGlance n before (rested before) answer → before.shown ≡ shown_by answer before.shown
glance_shown n before (look.Row row) glance = refl
glance_shown n before (look.Grade grade) glance = refl
glance_shown n before look.NotYet glance = absurd glance.held
glance_shown n before (look.Fault fault) glance = absurd glance.held

pub row_said : (n : Need) (hold : Hold) (row : Row) → IsSound (state_seen hold.pass.1) → Remembers hold.pass.1.seen hold.remembered
    → row_held hold.remembered.rows n ≡ Some row → said_in hold.pass.1.seen n ≡ Some (look.Row row)
row_said n hold row sound remembers held = glance_said n hold (look.Row row) (glanced n hold (look.Row row) sound remembers held)

pub glance_knows : (before : Hold) → KnowsOn before.pass.1 (rested before).pass.1
glance_knows before = record {
  follows = record { seen = begins_same _; met = begins_same _; tally = at_most_same _ };
  name = refl;
  parts = refl;
  writer = refl;
}

pub glance_within : (before : Hold) → IsWithin before → IsWithin (rested before)
glance_within before h = record { shown = h.shown; noted = λ some. absurd (some refl) }
