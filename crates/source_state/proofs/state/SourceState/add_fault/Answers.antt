use Rattle.std.proofs.Common.{◌≡◌, ◌<◌, None, length, sym, ap, subst, ◌∙◌, arith, vec_capacity}
use Rattle.source_state.specs.declared.entry.LogEntry.TheVariants.{Fault}
use Rattle.source_state.specs.Log.{fault_in}
use Rattle.source_state.specs.State.{State}
use Rattle.source_state.specs.Events.{logged}
use Rattle.source_state.specs.Keeping.{shown_by, KeepsFields}
use Rattle.source_state.proofs.Sound.{sound_fault}
use Rattle.source_state.proofs.Stepping.{state_fault, entry_room}
use Rattle.source_state.proofs.state.SourceState.add_fault.Goals as goal

pub push_reserved-requires : goal.push_reserved-requires
push_reserved-requires c =
    let room : length c.deref_mut-kept.result.now.log.items < vec_capacity c.deref_mut-kept.result.now.log =
    entry_room _ (Fault c.args.fault) c.deref_mut-kept.result.now.objects c.deref_mut-kept.result.now.fault _ _ (subst KeepsFields (sym c.deref_mut-kept.ensures.value) c.self.invariant) (sound_fault _ c.args.fault (subst KeepsFields (sym c.deref_mut-kept.ensures.value) c.self.invariant).sound (subst (λ (s : State). fault_in s.log ≡ None) (sym (ap shown_by c.deref_mut-kept.ensures.value ∙ c.self.view_is)) c.requires)) in
    omega (arith, c.deref_mut-kept.result.now.log.ok.0)

pub invariant_of-self : goal.invariant_of-self
invariant_of-self c =
    (state_fault _ c.deref_mut-kept.result.now.objects c.deref_mut-kept.result.now.fault _ c.push_reserved.new.self.items _ _ c.args.fault (subst KeepsFields (sym c.deref_mut-kept.ensures.value) c.self.invariant)
    (subst (λ (s : State). fault_in s.log ≡ None) (sym (ap shown_by c.deref_mut-kept.ensures.value ∙ c.self.view_is)) c.requires) c.push_reserved.ensures.items c.push_reserved.ensures.capacity).keeps

pub returns-clause-state : goal.returns-clause-state
returns-clause-state c =
    (state_fault _ c.deref_mut-kept.result.now.objects c.deref_mut-kept.result.now.fault _ c.push_reserved.new.self.items _ _ c.args.fault (subst KeepsFields (sym c.deref_mut-kept.ensures.value) c.self.invariant)
    (subst (λ (s : State). fault_in s.log ≡ None) (sym (ap shown_by c.deref_mut-kept.ensures.value ∙ c.self.view_is)) c.requires) c.push_reserved.ensures.items c.push_reserved.ensures.capacity).same
    ∙ ap (λ (s : State). logged s (Fault c.args.fault)) (ap shown_by c.deref_mut-kept.ensures.value ∙ c.self.view_is)

pub returns-clause-sound : goal.returns-clause-sound
returns-clause-sound c = (invariant_of-self c).sound
