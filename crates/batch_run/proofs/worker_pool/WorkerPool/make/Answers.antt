use Rattle.std.proofs.Common.{List, ap, sym, subst, ◌∙◌, arith}
use Rattle.source_pool.specs.Passes.{AreFeedersOf, Feed, feed_at}
use Rattle.batch_run.specs.WorkerPools.{AreNewWorkers}
use Rattle.batch_run.proofs.WorkerLaws.{hiring_none}
use Rattle.batch_run.proofs.worker_pool.WorkerPool.make.Goals as goal

pub returns : goal.returns
returns c =
    let opened = c.in-Ok-open.ensures in
    let pool = c.in-Ok-open.pool in
    let pass = c.in-Ok-open.pass in
    record {
      new_workers = c.in-Ok-make_workers.ensures.made c.args.counts.now
          (subst (AreNewWorkers pool c.in-Ok.tickets c.args.counts.now pass c.in-Ok.draws) (sym c.new.ensures.items)
          (hiring_none c.args.counts.now pool pass c.in-Ok-open.feeders c.in-Ok.tickets c.in-Ok.draws opened c.in-Ok.ensures));
      size = omega (arith, c.in-Ok-make_workers.ensures.size, c.make_workers.new.workers.ok.0);
      feeders = subst (AreFeedersOf pool) (sym c.into_vec.ensures) opened.feeders;
      fed = λ source l. ap (λ (feeds : List Feed). feed_at feeds source) c.into_vec.ensures ∙ opened.fed source l;
      places = c.in-Ok-empty_places.ensures;
      endings = (c.make_room.ensures.endings ∙ c.new-2.ensures.items, omega (arith, c.in-Ok-make_room.ensures.endings_room));
      uses = (c.make_room.ensures.uses ∙ c.new-3.ensures.items, omega (arith, c.in-Ok-make_room.ensures.uses_room));
    }
