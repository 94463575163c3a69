use Rattle.std.proofs.Common.{sym, subst}
use Rattle.source_state.specs.Keeping.{KeepsFields}
use Rattle.source_state.proofs.Stepping.{state_fail}
use Rattle.source_state.proofs.state.SourceState.add_fail.Goals as goal

pub invariant_of-self : goal.invariant_of-self
invariant_of-self c =
    state_fail _ c.deref_mut-kept.result.now.objects c.deref_mut-kept.result.now.fault _ _ c.args.what c.counted-kept.result (subst KeepsFields (sym c.deref_mut-kept.ensures.value) c.self.invariant)
    c.counted-kept.ensures

pub returns-clause-sound : goal.returns-clause-sound
returns-clause-sound c = (invariant_of-self c).sound
