use Rattle.std.proofs.Common.{ap, length, sym, subst, arith}
use Rattle.batch_run.specs.WorkerPools.{AreNewWorkers}
use Rattle.batch_run.proofs.worker_pool.make_workers.Goals as goal

pub loop-init : goal.loop-init
loop-init c =
    let none = ap length c.requires.none in
    record {
      new_workers = λ counts before. subst (AreNewWorkers c.args.pool.now c.args.tickets.now counts c.args.pass.now c.args.draws.now) (sym c.reserve.ensures.items) before;
      size = omega (arith, c.reserve.ensures.len, none, c.args.workers.now.ok.0);
      room = omega (arith, c.in-Ok.ensures);
    }

pub make_worker-requires-clause-few : goal.make_worker-requires-clause-few
make_worker-requires-clause-few c = omega (arith, c.loop-test.true, c.requires.few, c.loop.invariant.size)

pub make_worker-requires-clause-room : goal.make_worker-requires-clause-room
make_worker-requires-clause-room c = omega (arith, c.loop-test.true, c.loop.invariant.size, c.loop.invariant.room)

pub make_worker-requires-clause-own : goal.make_worker-requires-clause-own
make_worker-requires-clause-own c = (c.loop.invariant.new_workers c.requires.own.0 c.requires.own.1).base.own

pub make_worker-requires-clause-new_workers : goal.make_worker-requires-clause-new_workers
make_worker-requires-clause-new_workers c = (c.requires.own.0, c.loop.invariant.new_workers c.requires.own.0 c.requires.own.1)

pub loop-preserved : goal.loop-preserved
loop-preserved c = record {
  new_workers = λ counts before. c.in_ok-make_worker.ensures.made counts (c.loop.invariant.new_workers counts before);
  size = omega (arith, c.in_ok-make_worker.ensures.size, c.loop.invariant.size);
  room = omega (arith, c.loop.invariant.room, c.make_worker.ensures.room);
}
