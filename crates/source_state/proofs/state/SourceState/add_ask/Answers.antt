use Rattle.std.proofs.Common.{◌≡◌, ◌<◌, None, length, sym, ap, subst, ◌∙◌}
use Rattle.turn_lock.specs.Facts.{FactsGrow}
use Rattle.source_state.specs.State.{State, asked_in, facts_of}
use Rattle.source_state.specs.Events.{with_ask}
use Rattle.source_state.specs.Keeping.{shown_by, KeepsFields}
use Rattle.source_state.proofs.Stepping.{state_ask, ask_room}
use Rattle.source_state.proofs.Growing.{ask_grows}
use Rattle.source_state.proofs.state.SourceState.add_ask.Goals as goal

pub add-requires : goal.add-requires
add-requires c =
    ask_room _ c.deref_mut-kept.result.now.objects c.deref_mut-kept.result.now.fault _ _ c.args.object (subst KeepsFields (sym c.deref_mut-kept.ensures.value) c.self.invariant)
    (subst (λ (s : State). asked_in s c.args.object ≡ None → length s.asks < s.count) (sym (ap shown_by c.deref_mut-kept.ensures.value ∙ c.self.view_is)) c.requires)

pub invariant_of-self : goal.invariant_of-self
invariant_of-self c =
    (state_ask _ c.deref_mut-kept.result.now.objects c.add.new.self c.deref_mut-kept.result.now.fault _ _ c.args.object (subst KeepsFields (sym c.deref_mut-kept.ensures.value) c.self.invariant)
    (subst (λ (s : State). asked_in s c.args.object ≡ None → length s.asks < s.count) (sym (ap shown_by c.deref_mut-kept.ensures.value ∙ c.self.view_is)) c.requires)
    c.add.ensures).keeps

pub returns-clause-state : goal.returns-clause-state
returns-clause-state c =
    (state_ask _ c.deref_mut-kept.result.now.objects c.add.new.self c.deref_mut-kept.result.now.fault _ _ c.args.object (subst KeepsFields (sym c.deref_mut-kept.ensures.value) c.self.invariant)
    (subst (λ (s : State). asked_in s c.args.object ≡ None → length s.asks < s.count) (sym (ap shown_by c.deref_mut-kept.ensures.value ∙ c.self.view_is)) c.requires)
    c.add.ensures).same
    ∙ ap (λ (s : State). with_ask s c.args.object) (ap shown_by c.deref_mut-kept.ensures.value ∙ c.self.view_is)

pub returns-clause-grows : goal.returns-clause-grows
returns-clause-grows c = subst (λ (t : State). FactsGrow (facts_of c.args.self.now) (facts_of t)) (sym (returns-clause-state c)) (ask_grows c.args.self.now c.args.object)

pub returns-clause-sound : goal.returns-clause-sound
returns-clause-sound c = (invariant_of-self c).sound
