use Rattle.std.proofs.Common.{◌≡◌, ◌≤◌, ◌+◌, ◌++◌, All, map, vec_len, vec_capacity}
use Rattle.std.specs.Prelude.{reverse}
use Rattle.keyed_lock.specs.Hold.{share_of}
use Rattle.keyed_lock.proofs.lock.KeyedLock.hand_in.Given as goal

abbrev pub invariant-loop-handle : goal.invariant-loop-handle
invariant-loop-handle g l = record {
  pass : l.pass ≡ share_of l.self (l.fn.pass.1.parts + vec_len l.workers);
  workers : l.workers.items ++ map (λ handle. handle.worker) (reverse l.handles.items) ≡ map (λ handle. handle.worker) l.fn.handles.items;
  shares : All (λ handle. handle.pass ≡ share_of l.self 1) l.handles.items;
  many : vec_len l.workers + vec_len l.handles ≡ vec_len l.fn.handles;
  room : vec_len l.fn.handles ≤ vec_capacity l.workers;
}

abbrev pub decreases-loop-handle : goal.decreases-loop-handle
decreases-loop-handle g l = vec_len l.handles
