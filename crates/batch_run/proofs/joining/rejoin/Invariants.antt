use Rattle.std.proofs.Common.{◌≡◌, length}
use Rattle.source_pool.specs.Passes.{IsPassOf}
use Rattle.batch_run.proofs.JoinLaws.{RejoinedSo}
use Rattle.batch_run.proofs.joining.rejoin.Given as goal

abbrev pub invariant-loop-worker : goal.invariant-loop-worker
invariant-loop-worker l = record {
  own : IsPassOf l.pool l.pass;
  of : l.draws.0 ≡ l.tickets;
  so : RejoinedSo l.pool l.fn.workers.items l.workers.items l.fn.pass l.pass l.fn.draws.1 l.draws.1 l.fn.places l.places;
}

abbrev pub decreases-loop-worker : goal.decreases-loop-worker
decreases-loop-worker l = length l.workers.items
