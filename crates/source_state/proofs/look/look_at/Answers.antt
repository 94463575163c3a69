use Rattle.std.proofs.Common.{inl, inr, None, refl, sym, ap, ◌∙◌}
use Rattle.turn_lock.specs.declared.facts.Tally.{Tally}
use Rattle.source_state.specs.declared.look.Waiting.{Waiting}
use Rattle.source_state.specs.Looking.{told}
use Rattle.source_state.proofs.LookLaws.{decided_looks, told_looks}
use Rattle.source_state.proofs.look.look_at.Goals as goal

pub returns-in-Some-clause-looks : goal.returns-in-Some-clause-looks
returns-in-Some-clause-looks c =
    decided_looks c.args.state.now c.args.state.now c.args.waiting.now _ c.args.need c.in-Some.answer (sym c.decided.ensures ∙ c.in-Some.is) (record { same = refl; over = refl })

pub returns-in-Some-told-clause-looks : goal.returns-in-Some-told-clause-looks
returns-in-Some-told-clause-looks c =
    let left : Waiting = record { need = None; noted = c.args.waiting.now.noted } in
    told_looks c.args.state.now c.args.state.now c.args.waiting.now left c.args.need c.in-Some-told.what (sym c.decided.ensures ∙ c.in_default.is)
    (sym (c.told.ensures ∙ ap (λ (t : Tally). told c.args.waiting.now c.args.need t) c.tally.ensures) ∙ c.in-Some-told.is) (record { same = refl; over = refl })

pub returns-then-is_full-clause-looks : goal.returns-then-is_full-clause-looks
returns-then-is_full-clause-looks c = record {
  undecided = sym c.decided.ensures ∙ c.in_default.is;
  untold = sym (c.told.ensures ∙ ap (λ (t : Tally). told c.args.waiting.now c.args.need t) c.tally.ensures) ∙ c.in_default-told.is;
  full = sym c.is_full.ensures ∙ c.if-is_full.true;
  all = c.asks-kept.ensures.asks;
  ends = record { same = refl; over = refl };
}

pub returns-then-waits_for-clause-looks : goal.returns-then-waits_for-clause-looks
returns-then-waits_for-clause-looks c = record {
  undecided = sym c.decided.ensures ∙ c.in_default.is;
  untold = sym (c.told.ensures ∙ ap (λ (t : Tally). told c.args.waiting.now c.args.need t) c.tally.ensures) ∙ c.in_default-told.is;
  room = sym c.is_full.ensures ∙ c.if-is_full.false;
  waits = inl (record { waits = sym c.waits_for.ensures ∙ c.if-waits_for.true; same = refl; goes_on = refl });
}

pub returns-clause-looks : goal.returns-clause-looks
returns-clause-looks c = record {
  undecided = sym c.decided.ensures ∙ c.in_default.is;
  untold = sym (c.told.ensures ∙ ap (λ (t : Tally). told c.args.waiting.now c.args.need t) c.tally.ensures) ∙ c.in_default-told.is;
  room = sym c.is_full.ensures ∙ c.if-is_full.false;
  waits = inr (record { fresh = sym c.waits_for.ensures ∙ c.if-waits_for.false; calls = c.call.ensures.state; notes = cc });
}
