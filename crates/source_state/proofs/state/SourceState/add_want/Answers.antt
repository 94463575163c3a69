use Rattle.std.proofs.Common.{◌≤◌, sym, ap, subst, ◌∙◌}
use Rattle.source_state.specs.State.{State}
use Rattle.source_state.specs.Keeping.{shown_by, KeepsFields}
use Rattle.source_state.proofs.Stepping.{state_want}
use Rattle.source_state.proofs.state.SourceState.add_want.Goals as goal

pub invariant_of-self : goal.invariant_of-self
invariant_of-self c =
    state_want _ c.deref_mut-kept.result.now.objects c.deref_mut-kept.result.now.fault _ _ c.args.depth c.max-kept.result (subst KeepsFields (sym c.deref_mut-kept.ensures.value) c.self.invariant)
    (subst (λ (s : State). c.args.depth ≤ s.count) (sym (ap shown_by c.deref_mut-kept.ensures.value ∙ c.self.view_is)) c.requires) c.max-kept.ensures

pub returns-clause-sound : goal.returns-clause-sound
returns-clause-sound c = (invariant_of-self c).sound
