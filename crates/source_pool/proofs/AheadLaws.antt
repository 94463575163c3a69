-- What a turn makes of the pass that asks for a need to come.
use Rattle.std.proofs.Common.{◌≡◌, inl, inr, ℕ, Bool, MatchBool, true, false, None, refl, sym, ap, subst, ◌∙◌}
use Rattle.std.specs.Option.{IfSome}
use Rattle.atomic_table.specs.Seated.{TableId}
use Rattle.ranked_list.specs.declared.need.Need.{Need}
use Rattle.turn_lock.specs.declared.known.Known.{Known}
use Rattle.turn_lock.specs.Facts.{AtMost, FactsGrow, AreFactsKept}
use Rattle.turn_lock.specs.Known.{KnowsOf, holding, after_turn}
use Rattle.turn_lock.proofs.Growth.{begins_on, at_most_on}
use Rattle.source_state.specs.declared.entry.LogEntry.{LogEntry}
use Rattle.source_state.specs.declared.look.Waiting.{Waiting}
use Rattle.source_state.specs.declared.look.Look.{Look}
use Rattle.source_state.specs.declared.look.Look.TheVariants as look
use Rattle.source_state.specs.declared.look.LookFault.TheVariants as why
use Rattle.source_state.specs.State.{State, facts_of, IsSound}
use Rattle.source_state.specs.Looking.{decided, IsDecided, IsRefused, BeginsWaiting, Looks}
use Rattle.source_state.proofs.Lists.{none_not_some}
use Rattle.source_pool.specs.declared.hold.Hold.{Hold}
use Rattle.source_pool.specs.Holds.{SourcePass, no_waiting}
use Rattle.source_pool.specs.Looks.{said_in, MayLookFor, KeepsMarks, HasCalled, KnowsOn, IsCalledAhead, IsNotCalled, AsksAhead, IsWithin}
use Rattle.source_pool.specs.Remembering.{Remembers}
use Rattle.source_pool.specs.Seen.{state_seen}
use Rattle.source_pool.proofs.RememberLaws.{settled_on}
use Rattle.source_pool.proofs.SaidLaws.{said_is}
use Rattle.source_pool.proofs.SeenLaws.{sound_named}
use Rattle.source_pool.proofs.TurnLaws.{marks_kept, no_room, room_begun, has_called, in_reach, given_is}
use Rattle.source_pool.proofs.WindowLaws.{window_left}

-- a turn that looks ahead, and what the calls in it promise
pub record LooksAhead (n : Need) (before after : Hold) (found left : State) (now : Waiting) (answer : Look) : Type 0 where
  pub may : MayLookFor before.pass.1 n
  pub agrees : KnowsOf (facts_of found) before.pass.1
  pub sound : IsSound found
  pub looks : Looks n found left no_waiting now answer
  pub keeps : AreFactsKept (facts_of found) (facts_of left)
  pub gave : after.pass.1 ≡ after_turn (facts_of found) (facts_of left) before.pass.1

-- an answer is that nothing is there yet
abbrev pub is_not_yet : Look → Bool
is_not_yet (look.Row row) = false
is_not_yet (look.Grade grade) = false
is_not_yet look.NotYet = true
is_not_yet (look.Fault fault) = false

-- what the log that the pass now knows says of the need is what the state decided
said_ahead : {n : Need} {before after : Hold} {found left : State} {now : Waiting} {answer : Look} → (t : LooksAhead n before after found left now answer)
    → said_in after.pass.1.seen n ≡ decided found n
said_ahead {n = n} {found = found} t = ap (λ log. said_in log n) (ap (λ (k : Known LogEntry). k.seen) t.gave ∙ t.keeps.log) ∙ said_is found n t.sound

met_ahead : {n : Need} {before after : Hold} {found left : State} {now : Waiting} {answer : Look} → (t : LooksAhead n before after found left now answer)
    → after.pass.1.met ≡ left.asks
met_ahead t = ap (λ (k : Known LogEntry). k.met) t.gave

count_ahead : {n : Need} {before after : Hold} {found left : State} {now : Waiting} {answer : Look} → (t : LooksAhead n before after found left now answer)
    → found.count ≡ after.pass.1.name.1
count_ahead t = ap (λ (p : ℕ × ℕ). p.1) (t.agrees.name ∙ sym (ap (λ (k : Known LogEntry). k.name) t.gave))

marks_ahead : {n : Need} {before after : Hold} {found left : State} {now : Waiting} {answer : Look} → (t : LooksAhead n before after found left now answer) → left ≡ found
    → KeepsMarks before.pass.1 after.pass.1
marks_ahead {before = before} {found = found} {left = left} t same =
    subst (KeepsMarks before.pass.1) (sym t.gave)
    (marks_kept (facts_of found) (facts_of left) before.pass.1 (ap (λ (s : State). s.want) same) (ap (λ (s : State). s.asks) same))

-- what is decided or refused isn't asked for
said_already : {n : Need} {before after : Hold} {found left : State} {now : Waiting} {answer : Look} → (t : LooksAhead n before after found left now answer)
    → IsDecided n found left no_waiting now answer → IsNotCalled n before after
said_already {answer = answer} t d = record { there = inl (answer, said_ahead t ∙ d.decides); marks = marks_ahead t d.ends.same }

refused_ahead : {n : Need} {before after : Hold} {found left : State} {now : Waiting} {answer : Look} {kept : ℕ} → (t : LooksAhead n before after found left now answer)
    → IsRefused n found left no_waiting now kept → IsNotCalled n before after
refused_ahead {n = n} {after = after} {found = found} t r = record {
  there = inr (no_room n after.pass.1 found (met_ahead t ∙ ap (λ (s : State). s.asks) r.ends.same) (count_ahead t) r.full);
  marks = marks_ahead t r.ends.same;
}

-- who waited for nothing begins to wait
begun_ahead : {n : Need} {before after : Hold} {found left : State} {now : Waiting} {answer : Look} → (t : LooksAhead n before after found left now answer)
    → said_in after.pass.1.seen n ≡ None → BeginsWaiting n found left no_waiting now → IsCalledAhead n before after
begun_ahead {n = n} {before = before} {after = after} {found = found} t undecided b = record {
  undecided = undecided;
  room = room_begun n after.pass.1 found (met_ahead t ∙ ap (λ (s : State). s.asks) b.calls);
  called = subst (HasCalled n before.pass.1) (sym (t.gave ∙ ap (λ s. after_turn (facts_of found) (facts_of s) before.pass.1) b.calls))
      (has_called n found before.pass.1 t.may t.agrees.past.met);
}

called_by : (n : Need) (before after : Hold) (found left : State) (now : Waiting) (answer : Look) → LooksAhead n before after found left now answer
    → MatchBool (is_not_yet answer) (IsCalledAhead n before after) (IsNotCalled n before after)
called_by n before after found left now (look.Row row) t = said_already t t.looks
called_by n before after found left now (look.Grade grade) t = said_already t t.looks
called_by n before after found left now look.NotYet t = elim t.looks.waits [
  | inl on ↦ absurd (let bad : false ≡ true = on.waits in cc)
  | inr begins ↦ begun_ahead t (said_ahead t ∙ t.looks.undecided) begins
]
called_by n before after found left now (look.Fault (why.Source fault)) t = said_already t t.looks
called_by n before after found left now (look.Fault (why.Missing object)) t = said_already t t.looks
called_by n before after found left now (look.Fault (why.AsksFull most)) t = refused_ahead t t.looks
called_by n before after found left now (look.Fault (why.Call what)) t = absurd (none_not_some t.looks.tells)

-- the pass after the give
pub given_ahead : (known : Known LogEntry) (table : TableId) (found left : State) (mid after : SourcePass)
    → ◌≡◌ {A = SourcePass} mid (table, holding (facts_of found) known)
    → IfSome mid.1.held (λ f. ◌≡◌ {A = SourcePass} after (table, after_turn f (facts_of left) mid.1)) → after.1 ≡ after_turn (facts_of found) (facts_of left) known
given_ahead known table found left mid after took gave = ap (λ (p : SourcePass). p.1) (given_is table known (facts_of found) (facts_of left) mid after took gave)

-- the hold with its pass after a turn
abbrev pub with_pass : SourcePass → Hold → Hold
with_pass pass hold = record hold { pass = pass }

pub asked_ahead : (n : Need) (before : Hold) (table : TableId) (found left : State) (mid after : SourcePass) (now : Waiting) (answer : Look) (result : Bool)
    → MayLookFor before.pass.1 n → KnowsOf (facts_of found) before.pass.1 → IsSound found → IsSound left → Looks n found left no_waiting now answer
    → FactsGrow (facts_of found) (facts_of left) → AreFactsKept (facts_of found) (facts_of left) → ◌≡◌ {A = SourcePass} mid (table, holding (facts_of found) before.pass.1)
    → IfSome mid.1.held (λ f. ◌≡◌ {A = SourcePass} after (table, after_turn f (facts_of left) mid.1)) → result ≡ is_not_yet answer
    → AsksAhead n before (with_pass after before) result
asked_ahead n before table found left mid after now answer result may agrees sound sound_left looks grows keeps took gave same =
    let known = given_ahead before.pass.1 table found left mid after took gave in
    let t : LooksAhead n before (with_pass after before) found left now answer = record { may = may; agrees = agrees; sound = sound; looks = looks; keeps = keeps; gave = known } in
    record {
      found = found;
      left = left;
      agrees = agrees;
      gave = known;
      sound = sound_left;
      knows = subst (KnowsOn before.pass.1) (sym known)
          (record {
            follows = record {
              seen = begins_on agrees.past.seen grows.log;
              met = begins_on agrees.past.met grows.asks;
              tally = at_most_on agrees.past.tally grows.tally;
            };
            name = refl;
            parts = refl;
            writer = refl;
          });
      called = subst (λ (b : Bool). MatchBool b (IsCalledAhead n before (with_pass after before)) (IsNotCalled n before (with_pass after before))) (sym same)
          (called_by n before (with_pass after before) found left now answer t);
      waits = refl;
      shown = refl;
      remembers = refl;
    }

-- what the pass saw is sound
pub sound_ahead : (found left : State) (known after : Known LogEntry) → after ≡ after_turn (facts_of found) (facts_of left) known → (left.list, left.count) ≡ known.name
    → IsSound left → IsSound (state_seen after)
sound_ahead found left known after gave name sound =
    let there : IsSound (state_seen (after_turn (facts_of found) (facts_of left) known)) =
    subst (λ (p : ℕ × ℕ). IsSound (record { list = p.0; count = p.1; want = 0; log = left.log; asks = left.asks; tally = left.tally; last_fail = None; paused = false })) name (sound_named left sound) in
    subst (λ (known : Known LogEntry). IsSound (state_seen known)) (sym gave) there

-- what the pass remembers is of the longer log
pub remembers_ahead : (n : Need) (before : Hold) (found : State) (after : SourcePass) → MayLookFor before.pass.1 n → (found.list, found.count) ≡ before.pass.1.name
    → IsSound found → KnowsOn before.pass.1 after.1 → Remembers before.pass.1.seen before.remembered → Remembers after.1.seen before.remembered
remembers_ahead n before found after may name sound knows h = record {
  rows = window_left look.NotYet n before.pass.1.seen after.1.seen before.remembered.rows knows.follows.seen (in_reach n before.pass.1 found may name sound) h.rows;
  grades = settled_on before.pass.1.seen after.1.seen before.remembered.grades knows.follows.seen h.grades;
}

-- no more was shown than the pass knows of
pub within_ahead : (n : Need) (before after : Hold) (result : Bool) → AsksAhead n before after result → IsWithin before → IsWithin after
within_ahead n before after result h is = record {
  shown = subst (λ shown. AtMost shown after.pass.1.tally) (sym h.shown) (at_most_on is.shown h.knows.follows.tally);
  noted = λ some. subst (λ (w : Waiting). AtMost after.shown w.noted) (sym h.waits)
      (subst (λ shown. AtMost shown before.waiting.noted) (sym h.shown) (is.noted (λ none. some (ap (λ (w : Waiting). w.need) h.waits ∙ none))));
}
