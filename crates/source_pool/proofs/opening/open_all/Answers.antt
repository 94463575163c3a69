use Rattle.std.proofs.Common.{◌≡◌, ◌<◌, length, take, arith, sym, subst}
use Rattle.std.proofs.lemmas.List.{take_more, take_all, length-take}
use Rattle.source_pool.specs.Sharing.{IsOpened}
use Rattle.source_pool.proofs.opening.open_all.Goals as goal

pub open_next-requires-clause-few : goal.open_next-requires-clause-few
open_next-requires-clause-few c =
    let size : length c.loop-place.opened.locks.items ≡ length (take c.loop-place.place c.args.counts.now) = c.loop-place.invariant.opened.size in
    omega (arith, size, length-take c.loop-place.place c.args.counts.now, c.loop-place-test.true, c.requires.few, c.loop-place.opened.locks.ok.0)

pub open_next-requires-clause-room : goal.open_next-requires-clause-room
open_next-requires-clause-room c =
    let lt : c.loop-place.place < length c.args.counts.now = omega (arith, c.loop-place-test.true) in
    let short = length-take c.loop-place.place c.args.counts.now in
    let size = c.loop-place.invariant.opened.size in
    let holds = c.loop-place.invariant.opened.pass.size in
    let feeders = c.loop-place.invariant.opened.feeders.size in
    let room = c.loop-place.invariant.room in
    record {
      locks = let wide = room.locks in omega (arith, lt, short, size, wide, c.loop-place.opened.locks.ok.0);
      holds = let wide = room.holds in omega (arith, lt, short, size, holds, wide, c.loop-place.opened.holds.ok.0);
      feeders = let wide = room.feeders in omega (arith, lt, short, size, feeders, wide, c.loop-place.opened.feeders.ok.0);
    }

pub loop-place-preserved : goal.loop-place-preserved
loop-place-preserved c =
    let lt : c.loop-place.place < length c.args.counts.now = omega (arith, c.loop-place-test.true) in
    record {
      opened = subst (λ counts. IsOpened counts c.open_next.new.opened.locks.items c.open_next.new.opened.holds.items c.open_next.new.opened.feeders.items)
          (sym (take_more c.args.counts.now c.loop-place.place 0 lt)) (c.in_ok-open_next.ensures.added _ c.loop-place.invariant.opened);
      room = c.in_ok-open_next.ensures.room _ c.loop-place.invariant.room;
    }

pub returns : goal.returns
returns c = subst (λ counts. IsOpened counts c.loop-place.opened.locks.items c.loop-place.opened.holds.items c.loop-place.opened.feeders.items)
    (take_all c.loop-place.place c.args.counts.now (omega (arith, c.loop-place-test.false))) c.loop-place.invariant.opened
