use Rattle.std.proofs.Common.{arith, sym, ◌∙◌}
use Rattle.keyed_lock.proofs.Places.{some_lists}
use Rattle.keyed_lock.proofs.Seating.{opens_at}
use Rattle.keyed_lock.proofs.lock.KeyedLock.open.Goals as goal

pub new-requires : goal.new-requires
new-requires g c = opens_at g.V.LockInvariant.keeps _ _ _ c.args.values.now.items _ (c.as_slice.ensures.value ∙ c.in_ok-words.ensures) c.fill.ensures.filled
    (omega (arith, c.len-count.ensures, c.args.values.now.ok.0)) c.requires.keep

pub returns-clause-stay : goal.returns-clause-stay
returns-clause-stay g c = some_lists _ _ (sym c.empty.ensures.emptied ∙ (c.in-Err.ensures.err ∙ c.fill.ensures.filled))
