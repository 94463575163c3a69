use Rattle.std.proofs.Common.{◌≡◌}
use Rattle.keyed_lock.specs.Hold.{share_of}
use Rattle.batch_run.specs.Working.{Worked}
use Rattle.batch_run.proofs.work.work.Given as goal

abbrev pub invariant-loop : goal.invariant-loop
invariant-loop g l = record {
  share : l.own ≡ share_of l.table.lock 1;
  worked : Worked l.pool l.tickets l.queries l.fn.handle.worker l.worker;
}
