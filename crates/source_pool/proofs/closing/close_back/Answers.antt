use Rattle.std.proofs.Common.{length, arith, sym, subst}
use Rattle.source_pool.proofs.Fronts.{popped}
use Rattle.source_pool.proofs.CloseLaws.{ClosedFrom, closed_as, closed_more, passes_size, feeders_size, last_ones}
use Rattle.source_pool.proofs.closing.close_back.Goals as goal

pub close_one-requires-clause-pass : goal.close_one-requires-clause-pass
close_one-requires-clause-pass c =
    let h = closed_as c.args.locks.now.items c.args.holds.now.items c.args.feeders.now.items _ _ _ _ _ _ c.loop-lock.states.items c.in-Some.ensures.items
    (popped _ _ _ _ c.pop-in-Some.ensures.items c.unwrap-hold.ensures) (popped _ _ _ _ c.pop-in-Some-2.ensures.items c.unwrap-feeder.ensures) c.loop-lock.invariant.closed in
    (last_ones _ _ _ _ _ _ _ _ _ _ c.requires.own c.requires.feeders c.requires.whole h).pass

pub close_one-requires-clause-feeder : goal.close_one-requires-clause-feeder
close_one-requires-clause-feeder c =
    let h = closed_as c.args.locks.now.items c.args.holds.now.items c.args.feeders.now.items _ _ _ _ _ _ c.loop-lock.states.items c.in-Some.ensures.items
    (popped _ _ _ _ c.pop-in-Some.ensures.items c.unwrap-hold.ensures) (popped _ _ _ _ c.pop-in-Some-2.ensures.items c.unwrap-feeder.ensures) c.loop-lock.invariant.closed in
    (last_ones _ _ _ _ _ _ _ _ _ _ c.requires.own c.requires.feeders c.requires.whole h).feeder

pub close_one-requires-clause-whole : goal.close_one-requires-clause-whole
close_one-requires-clause-whole c =
    let h = closed_as c.args.locks.now.items c.args.holds.now.items c.args.feeders.now.items _ _ _ _ _ _ c.loop-lock.states.items c.in-Some.ensures.items
    (popped _ _ _ _ c.pop-in-Some.ensures.items c.unwrap-hold.ensures) (popped _ _ _ _ c.pop-in-Some-2.ensures.items c.unwrap-feeder.ensures) c.loop-lock.invariant.closed in
    (last_ones _ _ _ _ _ _ _ _ _ _ c.requires.own c.requires.feeders c.requires.whole h).whole

pub loop-lock-preserved : goal.loop-lock-preserved
loop-lock-preserved c =
    let h = closed_as c.args.locks.now.items c.args.holds.now.items c.args.feeders.now.items _ _ _ _ _ _ c.loop-lock.states.items c.in-Some.ensures.items
    (popped _ _ _ _ c.pop-in-Some.ensures.items c.unwrap-hold.ensures) (popped _ _ _ _ c.pop-in-Some-2.ensures.items c.unwrap-feeder.ensures) c.loop-lock.invariant.closed in
    let more = closed_more _ _ _ _ _ _ _ _ _ _ c.close_one.result h (passes_size _ _ _ _ _ _ _ _ _ c.requires.own.size h) (feeders_size _ _ _ _ _ _ _ _ _ c.requires.feeders.size h) c.close_one.ensures in
    record {
      closed = subst (λ states. ClosedFrom (length c.pop.new.self.items) c.args.locks.now.items c.args.holds.now.items c.args.feeders.now.items c.pop.new.self.items c.pop-in-Some.new.self.items c.pop-in-Some-2.new.self.items states)
          (sym c.push_reserved.ensures.items) more;
      room = omega (arith, c.push_reserved.ensures.len, c.push_reserved.ensures.capacity, c.in-Some.ensures.len, c.loop-lock.invariant.room);
    }
