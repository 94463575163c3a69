use Rattle.std.proofs.Common.{◌≡◌, ◌<◌, Some, length, sym, ap, subst, ◌∙◌, arith, vec_capacity}
use Rattle.turn_lock.specs.Facts.{FactsGrow}
use Rattle.source_state.specs.declared.entry.Asked.TheVariants.{Pending}
use Rattle.source_state.specs.declared.entry.LogEntry.TheVariants.{Settled}
use Rattle.source_state.specs.Log.{rows_in}
use Rattle.source_state.specs.State.{State, asked_in, SettlesWell, facts_of}
use Rattle.source_state.specs.Events.{logged}
use Rattle.source_state.specs.Keeping.{shown_by, KeepsFields}
use Rattle.source_state.proofs.Sound.{sound_settling}
use Rattle.source_state.proofs.Stepping.{state_settling, entry_room, pending_place}
use Rattle.source_state.proofs.Growing.{logged_grows}
use Rattle.source_state.proofs.state.SourceState.add_settling.Goals as goal

pub unwrap-place-requires : goal.unwrap-place-requires
unwrap-place-requires c =
    pending_place _ c.deref_mut-kept.result.now.objects c.deref_mut-kept.result.now.fault _ _ c.args.object c.settle.result (subst KeepsFields (sym c.deref_mut-kept.ensures.value) c.self.invariant)
    (subst (λ (s : State). asked_in s c.args.object ≡ Some Pending) (sym (ap shown_by c.deref_mut-kept.ensures.value ∙ c.self.view_is)) c.requires.pending)
    c.settle.ensures.place

pub push_reserved-requires : goal.push_reserved-requires
push_reserved-requires c =
    let room : length c.deref_mut-kept.result.now.log.items < vec_capacity c.deref_mut-kept.result.now.log =
    entry_room _ (Settled c.args.object c.args.settling) c.deref_mut-kept.result.now.objects c.deref_mut-kept.result.now.fault _ _ (subst KeepsFields (sym c.deref_mut-kept.ensures.value) c.self.invariant)
    (sound_settling _ c.args.object c.args.settling (subst KeepsFields (sym c.deref_mut-kept.ensures.value) c.self.invariant).sound
    (subst (λ (s : State). asked_in s c.args.object ≡ Some Pending) (sym (ap shown_by c.deref_mut-kept.ensures.value ∙ c.self.view_is)) c.requires.pending)
    (subst (λ (s : State). SettlesWell (rows_in s.log) c.args.object c.args.settling) (sym (ap shown_by c.deref_mut-kept.ensures.value ∙ c.self.view_is)) c.requires.fits)) in
    omega (arith, c.deref_mut-kept.result.now.log.ok.0)

pub invariant_of-self : goal.invariant_of-self
invariant_of-self c =
    (state_settling _ c.deref_mut-kept.result.now.objects c.settle.new.self c.deref_mut-kept.result.now.fault _ c.push_reserved.new.self.items _ _ c.args.object c.unwrap-place.result c.args.settling (subst KeepsFields (sym c.deref_mut-kept.ensures.value) c.self.invariant)
    (subst (λ (s : State). asked_in s c.args.object ≡ Some Pending) (sym (ap shown_by c.deref_mut-kept.ensures.value ∙ c.self.view_is)) c.requires.pending)
    (subst (λ (s : State). SettlesWell (rows_in s.log) c.args.object c.args.settling) (sym (ap shown_by c.deref_mut-kept.ensures.value ∙ c.self.view_is)) c.requires.fits)
    c.settle.ensures.settled (sym c.settle.ensures.place ∙ c.unwrap-place.ensures) c.push_reserved.ensures.items c.push_reserved.ensures.capacity).keeps

pub returns-clause-state : goal.returns-clause-state
returns-clause-state c =
    (state_settling _ c.deref_mut-kept.result.now.objects c.settle.new.self c.deref_mut-kept.result.now.fault _ c.push_reserved.new.self.items _ _ c.args.object c.unwrap-place.result c.args.settling (subst KeepsFields (sym c.deref_mut-kept.ensures.value) c.self.invariant)
    (subst (λ (s : State). asked_in s c.args.object ≡ Some Pending) (sym (ap shown_by c.deref_mut-kept.ensures.value ∙ c.self.view_is)) c.requires.pending)
    (subst (λ (s : State). SettlesWell (rows_in s.log) c.args.object c.args.settling) (sym (ap shown_by c.deref_mut-kept.ensures.value ∙ c.self.view_is)) c.requires.fits)
    c.settle.ensures.settled (sym c.settle.ensures.place ∙ c.unwrap-place.ensures) c.push_reserved.ensures.items c.push_reserved.ensures.capacity).same
    ∙ ap (λ (s : State). logged s (Settled c.args.object c.args.settling)) (ap shown_by c.deref_mut-kept.ensures.value ∙ c.self.view_is)

pub returns-clause-grows : goal.returns-clause-grows
returns-clause-grows c = subst (λ (t : State). FactsGrow (facts_of c.args.self.now) (facts_of t)) (sym (returns-clause-state c)) (logged_grows c.args.self.now (Settled c.args.object c.args.settling))

pub returns-clause-sound : goal.returns-clause-sound
returns-clause-sound c = (invariant_of-self c).sound
