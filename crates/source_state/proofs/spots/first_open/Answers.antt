use Rattle.std.proofs.Common.{sym, ◌∙◌, arith}
use Rattle.source_state.proofs.Caching.{open_step, open_done}
use Rattle.source_state.proofs.spots.first_open.Goals as goal

pub returns-then-is_some : goal.returns-then-is_some
returns-then-is_some c =
    open_done c.args.spots.now c.args.requests.now c.args.bottom c.loop-place.place _ c.standing.result c.open_above-found.result (omega arith) c.standing.ensures c.open_above-found.ensures
    (sym c.is_some.ensures ∙ c.if-is_some.true) c.loop-place.invariant

pub loop-place-preserved : goal.loop-place-preserved
loop-place-preserved c =
    open_step c.args.spots.now c.args.requests.now c.args.bottom c.loop-place.place _ c.standing.result c.open_above-found.result (omega arith) c.standing.ensures c.open_above-found.ensures
    (sym c.is_some.ensures ∙ c.if-is_some.false) c.loop-place.invariant
