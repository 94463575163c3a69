use Rattle.std.proofs.Common.{◌≡◌, arith, subst, sym, vec_capacity}
use Rattle.source_state.specs.declared.state.Kept.{Kept}
use Rattle.source_state.specs.State.{opened}
use Rattle.source_state.specs.Keeping.{shown_by, KeepsFields}
use Rattle.source_state.proofs.Stepping.{state_opened}
use Rattle.source_state.proofs.state.SourceState.open.Goals as goal

pub invariant_of-result : goal.invariant_of-result
invariant_of-result c =
    subst KeepsFields (sym c.in-Ok-new.ensures.ok)
    (state_opened c.args.list c.args.count (vec_capacity c.in-Ok.log) c.in-Ok.log.items c.in_ok-objects.objects c.requires c.in-Ok.ensures.items c.in_ok-objects.ensures
    (omega (arith, c.in-Ok.ensures.capacity))).keeps

pub returns : goal.returns
returns c =
    subst (λ (kept : Kept). shown_by kept ≡ opened c.args.list c.args.count) (sym c.in-Ok-new.ensures.ok)
    (state_opened c.args.list c.args.count (vec_capacity c.in-Ok.log) c.in-Ok.log.items c.in_ok-objects.objects c.requires c.in-Ok.ensures.items c.in_ok-objects.ensures
    (omega (arith, c.in-Ok.ensures.capacity))).same
