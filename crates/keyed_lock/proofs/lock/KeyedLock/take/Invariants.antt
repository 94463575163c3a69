use Rattle.std.proofs.Common.{◌≡◌}
use Rattle.keyed_lock.proofs.lock.KeyedLock.take.Given as goal

abbrev pub invariant-loop : goal.invariant-loop
invariant-loop g l = l.pass ≡ l.initial.pass
