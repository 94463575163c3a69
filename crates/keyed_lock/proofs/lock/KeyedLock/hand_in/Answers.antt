use Rattle.std.proofs.Common.{◌+◌, ◌++◌, ◌∷◌, [], vec_len, ap, ◌∙◌, arith}
use Rattle.keyed_lock.specs.Hold.{share_of}
use Rattle.keyed_lock.proofs.PassLaws.{share_more}
use Rattle.keyed_lock.proofs.HandleLaws.{hand_taken, workers_back}
use Rattle.keyed_lock.proofs.lock.KeyedLock.hand_in.Goals as goal

pub loop-handle-preserved : goal.loop-handle-preserved
loop-handle-preserved g c =
    let inv = c.loop-handle.invariant in
    let taken = hand_taken (λ h. h.worker) (λ h. h.pass) (share_of c.args.self.now 1) c.loop-handle.handles.items c.pop.new.self.items c.in-Some.handle c.in-Some.ensures.items inv.shares in
    let parts = c.into_parts-worker.ensures in
    let more = c.push_reserved.ensures.len in
    let fewer = c.in-Some.ensures.cases in
    let many = inv.many in
    let room = inv.room in
    let same = c.push_reserved.ensures.capacity in
    record {
      pass = share_more c.args.self.now c.loop-handle.pass c.into_parts-worker.result.1 c.join.new.pass (c.args.pass.now.1.parts + vec_len c.loop-handle.workers)
          (c.args.pass.now.1.parts + vec_len c.push_reserved.new.self) inv.pass (ap (λ p. p.1) parts ∙ taken.0) c.join.ensures (omega (arith, more));
      workers = workers_back (λ h. h.worker) (λ h. h.pass) c.loop-handle.handles.items c.pop.new.self.items c.in-Some.handle c.loop-handle.workers.items c.push_reserved.new.self.items _
          c.in-Some.ensures.items (c.push_reserved.ensures.items ∙ ap (λ p. c.loop-handle.workers.items ++ p.0 ∷ []) parts) inv.workers;
      shares = taken.1;
      many = omega (arith, many, more, fewer);
      room = omega (arith, room, same);
    }
