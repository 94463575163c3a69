use Rattle.std.proofs.Common.{◌∙◌, arith, rules}
use Rattle.query_server.specs.Serving.{Leaves}
use Rattle.query_server.proofs.SourceLaws.{leaves_same, leaves_then}
use Rattle.query_server.proofs.TakingLaws.{HadRound, asked_failed, asked_last, asked_short, round_failed, round_last, round_more}
use Rattle.query_server.proofs.server.serve_all.Given as given
use Rattle.query_server.proofs.server.serve_all.Goals as goal
use Rattle.query_server.proofs.server.serve_all.Goals.{After-serve_round-asked}

round : (g : given.Over) (c : After-serve_round-asked g)
    → HadRound c.args.conns (g.P.Port.links c.args.port.now) (g.P.Port.links c.loop-taken.port) (g.P.Port.links c.serve_round-asked.new.port)
    (g.P.Port.faults c.args.port.now) (g.P.Port.faults c.loop-taken.port) (g.P.Port.faults c.serve_round-asked.new.port)
    (g.P.Port.calls c.args.port.now) (g.P.Port.calls c.loop-taken.port) (g.P.Port.calls c.serve_round-asked.new.port)
    c.loop-taken.taken c.serve_round-asked.result.asked c.serve_round-asked.result.served
round g c = record {
  before = c.loop-taken.invariant.taken;
  part = c.serve_round-asked.ensures.asked.1;
  serves = c.serve_round-asked.ensures.serves;
  asks = c.serve_round-asked.ensures.calls;
}

left : (g : given.Over) (c : After-serve_round-asked g)
    → Leaves g.S.Source.list g.S.Source.counts g.S.Source.calls g.S.Source.at_hand c.args.sources.now.items c.serve_round-asked.new.sources.items
    c.args.catalog.now c.serve_round-asked.new.catalog
left g c =
    leaves_then g.S.Source.list g.S.Source.counts g.S.Source.calls g.S.Source.at_hand c.args.sources.now.items c.loop-taken.sources.items
    c.serve_round-asked.new.sources.items c.args.catalog.now c.loop-taken.catalog c.serve_round-asked.new.catalog c.loop-taken.invariant.left
    c.serve_round-asked.ensures.left

pub returns-in_default-clause-left : goal.returns-in_default-clause-left
returns-in_default-clause-left g c =
    leaves_same g.S.Source.list g.S.Source.counts g.S.Source.calls g.S.Source.at_hand c.args.sources.now.items c.args.catalog.now c.requires.empty

pub loop-taken-preserved : goal.loop-taken-preserved
loop-taken-preserved g c =
    let here = (goal.at.loop-taken-preserved g c).After-serve_round-asked in
    record {
      taken = round_more c.in-Ended.more (round g here) c.in-Ended.is (omega (arith, c.if-more-asked.false));
      closed = c.serve_round-asked.ensures.closed ∙ c.loop-taken.invariant.closed;
      left = left g here;
      at_hand = c.serve_round-asked.ensures.at_hand (search rules);
    }

pub returns-then-more-asked-clause-serves : goal.returns-then-more-asked-clause-serves
returns-then-more-asked-clause-serves g c =
    round_last c.in-Ended.more (round g (goal.at.returns-then-more-asked-clause-serves g c).After-serve_round-asked) c.in-Ended.is c.if-more-asked.true

pub returns-then-more-asked-clause-calls : goal.returns-then-more-asked-clause-calls
returns-then-more-asked-clause-calls g c =
    asked_last c.in-Ended.more (round g (goal.at.returns-then-more-asked-clause-calls g c).After-serve_round-asked) c.in-Ended.is c.if-more-asked.true

pub returns-then-more-asked-clause-left : goal.returns-then-more-asked-clause-left
returns-then-more-asked-clause-left g c = left g (goal.at.returns-then-more-asked-clause-left g c).After-serve_round-asked

pub returns-in-PortFault-clause-serves : goal.returns-in-PortFault-clause-serves
returns-in-PortFault-clause-serves g c =
    round_failed (round g (goal.at.returns-in-PortFault-clause-serves g c).After-serve_round-asked) c.in-PortFault.is

pub returns-in-PortFault-clause-calls : goal.returns-in-PortFault-clause-calls
returns-in-PortFault-clause-calls g c =
    asked_failed (round g (goal.at.returns-in-PortFault-clause-calls g c).After-serve_round-asked) c.in-PortFault.is

pub returns-in-PortFault-clause-left : goal.returns-in-PortFault-clause-left
returns-in-PortFault-clause-left g c = left g (goal.at.returns-in-PortFault-clause-left g c).After-serve_round-asked

pub returns-in-Memory-clause-calls : goal.returns-in-Memory-clause-calls
returns-in-Memory-clause-calls g c =
    asked_short (round g (goal.at.returns-in-Memory-clause-calls g c).After-serve_round-asked) c.in-Memory.is

pub returns-in-Memory-clause-left : goal.returns-in-Memory-clause-left
returns-in-Memory-clause-left g c = left g (goal.at.returns-in-Memory-clause-left g c).After-serve_round-asked
