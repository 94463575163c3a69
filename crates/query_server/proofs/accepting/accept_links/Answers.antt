use Rattle.std.proofs.Common.{◌≡◌, ◌+◌, ◌<◌, ◌≤◌, ◌∙◌, arith, inl, inr}
use Rattle.tk_io.specs.Calls.{PortCall}
use Rattle.query_server.proofs.TakingLaws.{took_more, gave_more, gave_all, gave_last}
use Rattle.query_server.proofs.accepting.accept_links.Goals as goal

pub loop-taken-preserved : goal.loop-taken-preserved
loop-taken-preserved g c =
    let before = c.loop-taken.invariant in
    let next = c.in-Handed.ensures.next in
    let few : c.loop-taken.taken + 1 ≤ c.args.conns = omega arith in (
      took_more (g.P.Port.links c.args.port.now) (g.P.Port.links c.loop-taken.port) (g.P.Port.links c.accept_next.new.port) c.loop-taken.taken before.0 next.0,
      few,
      next.1 ∙ before.2,
      c.in-Handed.ensures.closed ∙ before.3,
      gave_more (g.P.Port.calls c.args.port.now) (g.P.Port.calls c.loop-taken.port) (g.P.Port.calls c.accept_next.new.port) c.loop-taken.taken before.4 c.in-Handed.ensures.calls,
    )

pub returns-in-Left-clause-accepts : goal.returns-in-Left-clause-accepts
returns-in-Left-clause-accepts g c =
    let before = c.loop-taken.invariant in
    let next = c.in-Left.ensures.next in
    let few : c.loop-taken.taken + 1 ≤ c.args.conns = omega arith in
    record {
      count = c.loop-taken.taken + 1;
      took = took_more (g.P.Port.links c.args.port.now) (g.P.Port.links c.loop-taken.port) (g.P.Port.links c.accept_next.new.port) c.loop-taken.taken before.0 next.0;
      few = few;
      quiet = next.1 ∙ before.2;
    }

pub returns-in-Left-clause-calls : goal.returns-in-Left-clause-calls
returns-in-Left-clause-calls g c =
    let few : c.loop-taken.taken + 1 ≤ c.args.conns = omega arith in
    record {
      count = c.loop-taken.taken + 1;
      few = few;
      gave = gave_all (g.P.Port.calls c.args.port.now) (g.P.Port.calls c.accept_next.new.port) (c.loop-taken.taken + 1)
          (gave_more (g.P.Port.calls c.args.port.now) (g.P.Port.calls c.loop-taken.port) (g.P.Port.calls c.accept_next.new.port) c.loop-taken.taken c.loop-taken.invariant.4 c.in-Left.ensures.calls);
    }

pub returns-in-Ended-clause-calls : goal.returns-in-Ended-clause-calls
returns-in-Ended-clause-calls g c =
    let few : c.loop-taken.taken < c.args.conns = omega arith in
    inr (
      few,
      gave_last (g.P.Port.calls c.args.port.now) (g.P.Port.calls c.loop-taken.port) (g.P.Port.calls c.accept_next.new.port) c.loop-taken.taken PortCall.Ended
          c.loop-taken.invariant.4 c.in-Ended.ensures.calls,
    )

pub returns-in-Failed-clause-calls : goal.returns-in-Failed-clause-calls
returns-in-Failed-clause-calls g c =
    let few : c.loop-taken.taken < c.args.conns = omega arith in
    record {
      count = c.loop-taken.taken;
      few = few;
      gave = gave_last (g.P.Port.calls c.args.port.now) (g.P.Port.calls c.loop-taken.port) (g.P.Port.calls c.accept_next.new.port) c.loop-taken.taken PortCall.Failed
          c.loop-taken.invariant.4 c.in-Failed.ensures.calls;
    }

pub returns-clause-calls : goal.returns-clause-calls
returns-clause-calls g c =
    let all : c.loop-taken.taken ≡ c.args.conns = omega (arith, c.loop-taken.invariant.1) in
    inl (all, gave_all (g.P.Port.calls c.args.port.now) (g.P.Port.calls c.loop-taken.port) c.loop-taken.taken c.loop-taken.invariant.4)
