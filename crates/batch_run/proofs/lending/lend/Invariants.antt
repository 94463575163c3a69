use Rattle.std.proofs.Common.{◌≡◌, length, vec_capacity}
use Rattle.batch_run.proofs.LendLaws.{LentTo}
use Rattle.batch_run.proofs.lending.lend.Given as goal

abbrev pub invariant-loop-feeder : goal.invariant-loop-feeder
invariant-loop-feeder g l = record {
  lent : LentTo g.S.Source.list g.S.Source.counts g.S.Source.calls g.S.Source.at_hand l.fn.feeders.items l.feeders.items l.fn.slots.items l.slots.items;
  room : vec_capacity l.feeders ≡ vec_capacity l.fn.feeders;
}

abbrev pub decreases-loop-feeder : goal.decreases-loop-feeder
decreases-loop-feeder g l = length l.feeders.items
