use Rattle.std.proofs.Common.{◌≡◌, ◌≤◌, None, All, length, map, vec_capacity}
use Rattle.query_server.specs.Homes.{home_of}
use Rattle.query_server.proofs.HomeLaws.{ReopenedTo}
use Rattle.query_server.proofs.ReopenLaws.{AskedTo, BecameTo}
use Rattle.query_server.proofs.reopening.entries_again.Given as goal

abbrev pub invariant-loop-place : goal.invariant-loop-place
invariant-loop-place g l = record {
  asked : AskedTo g.S.Source.list g.S.Source.counts g.S.Source.calls l.place (map home_of l.entries) l.fn.slots.items l.slots.items;
  empty : All (λ slot. slot.feeder ≡ None) l.fn.slots.items → All (λ slot. slot.feeder ≡ None) l.slots.items;
  became : BecameTo g.S.Source.list g.S.Source.counts g.S.Source.calls g.S.Source.at_hand l.place l.entries l.now.items l.fn.slots.items l.slots.items;
  so : ReopenedTo l.place l.entries l.now.items;
  room : length l.entries ≤ vec_capacity l.now;
}
