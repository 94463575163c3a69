use Rattle.std.proofs.Common.{arith}
use Rattle.batch_run.proofs.UseLaws.{uses_more}
use Rattle.batch_run.proofs.finish.use_all.Goals as goal

pub loop-source-preserved : goal.loop-source-preserved
loop-source-preserved g c =
    let inv = c.loop-source.invariant in
    let end = c.len-source-end.ensures in
    let test = c.loop-source-test.true in
    let many = c.requires.states in
    record {
      filled = omega (arith, c.push_reserved.ensures.len, inv.filled);
      each = uses_more g.S.Source.list g.S.Source.counts g.S.Source.calls g.S.Source.at_hand c.args.states.now c.args.slots.now c.loop-source.uses.items c.push_reserved.new.self.items c.loop-source.source c.index-slots-source.result
          c.used.result (omega (arith, inv.filled, c.loop-source.uses.ok.0)) (omega (arith, test, end, many)) inv.each c.used.ensures c.push_reserved.ensures.items;
      room = omega (arith, c.push_reserved.ensures.capacity, inv.room);
    }

pub returns-clause-each : goal.returns-clause-each
returns-clause-each g c source l =
    let end = c.len-source-end.ensures in
    let test = c.loop-source-test.false in
    let many = c.requires.states in
    c.loop-source.invariant.each source (omega (arith, l, test, end, many))
