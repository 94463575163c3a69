use Rattle.std.proofs.Common.{◌≡◌, ◌≤◌, ◌+◌, ◌-◌, All, vec_len}
use Rattle.keyed_lock.specs.Hold.{share_of}
use Rattle.keyed_lock.proofs.lock.KeyedLock.join_all.Given as goal

abbrev pub invariant-loop-own : goal.invariant-loop-own
invariant-loop-own g l = record {
  pass : l.pass ≡ share_of l.self (l.fn.pass.1.parts + (vec_len l.fn.passes - vec_len l.passes));
  few : vec_len l.passes ≤ vec_len l.fn.passes;
  shares : All (λ own. own ≡ share_of l.self 1) l.passes.items;
}

abbrev pub decreases-loop-own : goal.decreases-loop-own
decreases-loop-own g l = vec_len l.passes
