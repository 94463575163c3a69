use Rattle.std.proofs.Common.{◌≡◌, ◌≤◌, rules}
use Rattle.query_core.specs.Machines.{state_of}
use Rattle.query_run.specs.Inquiries.{needed, list_needed}
use Rattle.query_run.proofs.Ahead.{ahead_none, ahead_on, reading_ahead}
use Rattle.query_run.proofs.Foreseen.{below_none, below_needed, below_next, below_all}
use Rattle.query_run.proofs.run.look_ahead.Goals as goal

pub loop-list-init : goal.loop-list-init
loop-list-init g c = record {
  own = c.requires.own;
  ahead = ahead_none c.args.pass.now c.args.query.now;
  asked = below_none _ c.args.query.now c.list_needed-needed.result c.args.pass.now;
}

pub prefetch-requires-clause-reading : goal.prefetch-requires-clause-reading
prefetch-requires-clause-reading g c = reading_ahead c.args.pass.now c.loop-list.pass c.args.query.now c.requires.reading c.loop-list.invariant.ahead

pub loop-list-preserved-then-list-needed : goal.loop-list-preserved-then-list-needed
loop-list-preserved-then-list-needed g c = record {
  own = c.loop-list.invariant.own;
  ahead = c.loop-list.invariant.ahead;
  asked = below_needed _ c.args.query.now c.loop-list.list c.list_needed-needed.result c.args.pass.now c.loop-list.pass c.if-list-needed.true c.loop-list.invariant.asked;
}

pub loop-list-preserved : goal.loop-list-preserved
loop-list-preserved g c = record {
  own = c.prefetch.ensures.own;
  ahead = ahead_on c.args.pass.now c.loop-list.pass c.prefetch.new.pass c.args.query.now c.loop-list.invariant.ahead c.prefetch.ensures.ahead;
  asked = below_next _ c.args.query.now c.loop-list.list c.list_needed-needed.result c.args.pass.now c.loop-list.pass c.prefetch.new.pass c.loop-list.invariant.ahead c.prefetch.ensures.asked
      c.prefetch.ensures.ahead c.loop-list.invariant.asked;
}

pub returns-clause-asked : goal.returns-clause-asked
returns-clause-asked g c =
    let most : (state_of c.args.query.now.machine).log.lists ≤ c.loop-list.list = search rules in
    let same : c.list_needed-needed.result ≡ list_needed (needed c.args.query.now) = search rules in
    below_all _ c.args.query.now c.loop-list.list (state_of c.args.query.now.machine).log.lists c.list_needed-needed.result (list_needed (needed c.args.query.now)) c.args.pass.now
    c.loop-list.pass most same c.loop-list.invariant.asked
