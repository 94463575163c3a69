-- What the turns of a query's pass gave, and why a look refused it.
use Rattle.std.proofs.Common.{◌≡◌, ◌≤◌, inl, inr, ℕ, Bool, true, false, cond, Option, Some, None, List, [], ◌∷◌, ◌++◌, Contains, sym, ap, subst, ◌∙◌, append_assoc}
use Rattle.std.proofs.lemmas.Bool.Decides.{eqb_tells}
use Rattle.ranked_list.specs.declared.need.Need.{Need}
use Rattle.ranked_list.specs.declared.need.Need.TheVariants as need
use Rattle.turn_lock.specs.declared.facts.Facts.{Facts}
use Rattle.turn_lock.specs.declared.facts.Tally.{Tally}
use Rattle.turn_lock.specs.declared.known.Known.{Known}
use Rattle.turn_lock.specs.Facts.{IsFrontOf}
use Rattle.turn_lock.proofs.Growth.{begins_same, begins_on}
use Rattle.source_state.specs.declared.entry.LogEntry.{LogEntry}
use Rattle.source_api.specs.declared.source.FailKind.{FailKind}
use Rattle.source_state.proofs.Lists.{none_not_some}
use Rattle.source_state.specs.declared.look.Look.{Look}
use Rattle.source_state.specs.declared.look.Look.TheVariants as look
use Rattle.source_state.specs.declared.look.LookFault.{LookFault}
use Rattle.source_state.specs.declared.look.LookFault.TheVariants as why
use Rattle.source_state.specs.declared.look.Waiting.{Waiting}
use Rattle.source_state.specs.State.{facts_of}
use Rattle.source_state.specs.Looking.{waits_for, newer, told}
use Rattle.source_pool.specs.declared.hold.Hold.{Hold}
use Rattle.source_pool.specs.Passes.{hold_at, OthersStay}
use Rattle.source_pool.specs.Looks.{Answers as LookAnswers}
use Rattle.source_pool.specs.Looks.{IsLook, IsTurn, IsFail, HasCalled, BeginsToWait}
use Rattle.query_run.specs.Failing.{CallsFor, HasCalledFor, FailCame, RefusedBy}

-- the pass gave one more value
pub gave_one : (n : Need) (now after : Hold) (answer : Look) → (turn : IsTurn n now after answer) → after.pass.1.gave ≡ now.pass.1.gave ++ facts_of turn.left ∷ []
gave_one n now after answer turn = ap (λ (known : Known LogEntry). known.gave) turn.gave

gave_more : (n : Need) (now after : Hold) (answer : Look) → IsLook n now after answer → IsFrontOf now.pass.1.gave after.pass.1.gave
gave_more n now after answer (inl glance) = subst (λ (hold : Hold). IsFrontOf now.pass.1.gave hold.pass.1.gave) (sym glance.same) (begins_same now.pass.1.gave)
gave_more n now after answer (inr turn) = record { rest = facts_of turn.left ∷ []; goes_on = gave_one n now after answer turn }

-- at each source the pass gave what it had given, or more
pub all_turns : (n : Need) (before now after : List Hold) (source other : ℕ) (answer : Look) → OthersStay source now after
    → IsLook n (hold_at now source) (hold_at after source) answer
    → IsFrontOf (hold_at before other).pass.1.gave (hold_at now other).pass.1.gave
    → IsFrontOf (hold_at before other).pass.1.gave (hold_at after other).pass.1.gave
all_turns n before now after source other answer others looks h = elim (eqb_tells other source) [
  | inl t ↦
      begins_on h (subst (λ s. IsFrontOf (hold_at now s).pass.1.gave (hold_at after s).pass.1.gave) (sym t.1)
      (gave_more n (hold_at now source) (hold_at after source) answer looks))
  | inr f ↦ subst (λ (hold : Hold). IsFrontOf (hold_at before other).pass.1.gave hold.pass.1.gave) (sym (others.stay other f.1)) h
]

-- what was called for once, was called for after more turns
pub called_front : (m : Need) (noted : Tally) (before now after : Known LogEntry) → IsFrontOf now.gave after.gave → HasCalledFor m noted before now
    → HasCalledFor m noted before after
called_front m noted before now after front h = record {
  earlier = h.earlier;
  call = h.call;
  later = h.later ++ front.rest;
  turns = front.goes_on ∙ (ap (λ gave. gave ++ front.rest) h.turns ∙ (append_assoc before.gave (h.earlier ++ h.call ∷ h.later) front.rest
      ∙ ap (λ rest. before.gave ++ rest) (append_assoc h.earlier (h.call ∷ h.later) front.rest)));
  calls = h.calls;
  tally = h.tally;
}

-- what was called for once, was called for after one more turn
pub called_on : (m : Need) (noted : Tally) (before now after : Known LogEntry) (given : Facts LogEntry) → after.gave ≡ now.gave ++ given ∷ []
    → HasCalledFor m noted before now → HasCalledFor m noted before after
called_on m noted before now after given more h = record {
  earlier = h.earlier;
  call = h.call;
  later = h.later ++ given ∷ [];
  turns = more ∙ (ap (λ gave. gave ++ given ∷ []) h.turns ∙ (append_assoc before.gave (h.earlier ++ h.call ∷ h.later) (given ∷ [])
      ∙ ap (λ rest. before.gave ++ rest) (append_assoc h.earlier (h.call ∷ h.later) (given ∷ []))));
  calls = h.calls;
  tally = h.tally;
}

-- a turn that begins to wait calls for the need
pub called_by : (m : Need) (before after : Known LogEntry) (given : Facts LogEntry) → after.sight.mark ≡ given.mark → after.met ≡ given.asks
    → HasCalled m before after → CallsFor m given
called_by (need.Row list depth) before after given mark met h = subst (λ n. depth ≤ n) mark h.wanted
called_by (need.Grade list object) before after given mark met h = subst (λ asks. Contains asks object) met h.asks
called_by need.Done before after given mark met h = h

pub called_first : (m : Need) (answer : Look) (before : Known LogEntry) (now after : Hold) → IsFrontOf before.gave now.pass.1.gave
    → IsTurn m now after answer → BeginsToWait m now after → HasCalledFor m after.waiting.noted before after.pass.1
called_first m answer before now after front turn begins =
    let given = facts_of turn.left in
    record {
      earlier = front.rest;
      call = given;
      later = [];
      turns = gave_one m now after answer turn ∙ (ap (λ gave. gave ++ given ∷ []) front.goes_on ∙ append_assoc before.gave front.rest (given ∷ []));
      calls = called_by m now.pass.1 after.pass.1 given (ap (λ (known : Known LogEntry). known.sight.mark) turn.gave) (ap (λ (known : Known LogEntry). known.met) turn.gave) begins.called;
      tally = sym (ap (λ (known : Known LogEntry). known.tally) turn.gave) ∙ sym (ap (λ (w : Waiting). w.noted) begins.notes);
    }

-- a fail that is told is newer than what was noted
newer_by : (waits : Bool) (fails : Option FailKind) (what : FailKind) → cond waits fails None ≡ Some what → fails ≡ Some what
newer_by true fails what e = e
newer_by false fails what e = absurd (none_not_some e)

told_newer : (waiting : Waiting) (n : Need) (tally : Tally) (what : FailKind) → told waiting n tally ≡ Some what → newer waiting.noted tally ≡ Some what
told_newer waiting n tally what e = newer_by (waits_for waiting.need n) (newer waiting.noted tally) what e

fail_came : (n : Need) (what : FailKind) (before : Known LogEntry) (now after : Hold) (answer : Look) → IsTurn n now after answer → IsFail n now after what
    → HasCalledFor n now.waiting.noted before now.pass.1 → FailCame what n before after.pass.1
fail_came n what before now after answer turn fail called = record {
  noted = now.waiting.noted;
  called = called_on n now.waiting.noted before now.pass.1 after.pass.1 (facts_of turn.left) (gave_one n now after answer turn) called;
  undecided = fail.undecided;
  rose = told_newer now.waiting n after.pass.1.tally what fail.tells;
}

-- why a look refused a need, which had been called for where a fail is told
pub refused_by : (n : Need) (before : Known LogEntry) (now after : Hold) (fault : LookFault) → IsTurn n now after (look.Fault fault)
    → LookAnswers n now after (look.Fault fault)
    → ((what : FailKind) → told now.waiting n after.pass.1.tally ≡ Some what → HasCalledFor n now.waiting.noted before now.pass.1)
    → RefusedBy fault n before after.pass.1
refused_by n before now after (why.Source fault) turn said called = said.says
refused_by n before now after (why.Missing object) turn said called = said.says
refused_by n before now after (why.AsksFull kept) turn said called = record { undecided = said.undecided; full = said.full }
refused_by n before now after (why.Call what) turn said called = fail_came n what before now after (look.Fault (why.Call what)) turn said (called what said.tells)
