use Rattle.std.proofs.Common.{arith}
use Rattle.batch_run.proofs.WorkerLaws.{made_more}
use Rattle.batch_run.proofs.worker_pool.make_worker.Goals as goal

pub returns-clause-made : goal.returns-clause-made
returns-clause-made c counts before =
    made_more c.args.pool.now c.args.tickets.now counts c.args.pass.now c.split.new.pass c.args.draws.now c.split-2.new.pass c.args.workers.now.items c.push_reserved.new.self.items _
    (omega (arith, c.requires.few, c.args.workers.now.ok.0)) c.push_reserved.ensures.items c.split.ensures.kept c.in-Ok.ensures.given c.in-Ok.ensures.ok
    c.split-2.ensures.kept c.split-2.ensures.given c.new.ensures.items before
