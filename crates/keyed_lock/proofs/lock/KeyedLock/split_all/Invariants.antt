use Rattle.std.proofs.Common.{◌≡◌, ◌≤◌, ◌-◌, All, vec_len, vec_capacity}
use Rattle.keyed_lock.specs.Hold.{share_of}
use Rattle.keyed_lock.proofs.lock.KeyedLock.split_all.Given as goal

abbrev pub invariant-loop-given : goal.invariant-loop-given
invariant-loop-given g l = record {
  pass : l.pass ≡ share_of l.self (l.fn.pass.1.parts - l.given);
  shares : All (λ own. own ≡ share_of l.self 1) l.passes.items;
  size : vec_len l.passes ≡ l.given;
  room : l.count ≤ vec_capacity l.passes;
}
