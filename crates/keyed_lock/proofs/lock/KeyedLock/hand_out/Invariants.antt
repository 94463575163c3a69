use Rattle.std.proofs.Common.{◌≡◌, ◌≤◌, ◌+◌, ◌-◌, ◌++◌, All, map, vec_len, vec_capacity}
use Rattle.std.specs.Prelude.{reverse}
use Rattle.keyed_lock.specs.Hold.{share_of}
use Rattle.keyed_lock.proofs.lock.KeyedLock.hand_out.Given as goal

abbrev pub invariant-loop-worker : goal.invariant-loop-worker
invariant-loop-worker g l = record {
  pass : l.pass ≡ share_of l.self (l.fn.pass.1.parts - vec_len l.handles);
  handles : map (λ handle. handle.worker) l.handles.items ++ reverse l.workers.items ≡ l.fn.workers.items;
  shares : All (λ handle. handle.pass ≡ share_of l.self 1) l.handles.items;
  many : vec_len l.handles + vec_len l.workers ≡ vec_len l.fn.workers;
  room : vec_len l.fn.workers ≤ vec_capacity l.handles;
  kept : vec_capacity l.workers ≡ vec_capacity l.fn.workers;
}

abbrev pub decreases-loop-worker : goal.decreases-loop-worker
decreases-loop-worker g l = vec_len l.workers
