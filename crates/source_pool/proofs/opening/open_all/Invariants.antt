use Rattle.std.proofs.Common.{length, take}
use Rattle.source_pool.specs.Sharing.{IsOpened}
use Rattle.source_pool.specs.Rooms.{HasRoom}
use Rattle.source_pool.proofs.opening.open_all.Given as goal

abbrev pub invariant-loop-place : goal.invariant-loop-place
invariant-loop-place l = record {
  opened : IsOpened (take l.place l.counts) l.opened.locks.items l.opened.holds.items l.opened.feeders.items;
  room : HasRoom (length l.counts) l.opened;
}
