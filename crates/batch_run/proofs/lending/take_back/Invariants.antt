use Rattle.std.proofs.Common.{◌≤◌, length, vec_capacity}
use Rattle.batch_run.proofs.LendLaws.{BackTo}
use Rattle.batch_run.proofs.lending.take_back.Given as goal

abbrev pub invariant-loop-place : goal.invariant-loop-place
invariant-loop-place g l = record {
  back : BackTo g.S.Source.list g.S.Source.counts g.S.Source.calls g.S.Source.at_hand l.place l.fn.slots.items l.slots.items l.feeders.items;
  room : length l.fn.slots.items ≤ vec_capacity l.feeders;
}
