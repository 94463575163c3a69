use Rattle.std.proofs.Common.{◌+◌, ◌≤◌, ◌∙◌, arith}
use Rattle.source_node.specs.Serving.{seen}
use Rattle.source_node.proofs.PageLaws.{fell_then}
use Rattle.tk_io.specs.declared.Failed.{Failed}
use Rattle.source_node.specs.ServingLinks.{port_as}
use Rattle.source_node.proofs.ServingLaws.{next_served, one_more, none_came, all_that_came}
use Rattle.source_node.proofs.serving.serve_links.Goals as goal

pub loop-served-preserved : goal.loop-served-preserved
loop-served-preserved g c =
    let before = port_as g.P.Port.links g.P.Port.closed g.P.Port.faults g.P.Port.calls c.args.port.now in
    let mid = port_as g.P.Port.links g.P.Port.closed g.P.Port.faults g.P.Port.calls c.loop-served.port in
    let now = port_as g.P.Port.links g.P.Port.closed g.P.Port.faults g.P.Port.calls c.serve_next.new.port in
    let source = seen (g.S.Source.list c.args.source.now) (g.S.Source.counts c.args.source.now) (g.S.Source.calls c.args.source.now) (g.S.Source.at_hand c.args.source.now) (g.S.Source.states c.args.source.now) in
    let after = seen (g.S.Source.list c.loop-served.source) (g.S.Source.counts c.loop-served.source) (g.S.Source.calls c.loop-served.source) (g.S.Source.at_hand c.loop-served.source) (g.S.Source.states c.loop-served.source) in
    let source_now = seen (g.S.Source.list c.serve_next.new.source) (g.S.Source.counts c.serve_next.new.source) (g.S.Source.calls c.serve_next.new.source) (g.S.Source.at_hand c.serve_next.new.source) (g.S.Source.states c.serve_next.new.source) in
    let next = next_served Failed c.args.routes.now c.args.version mid now after source_now c.in-Ok-true.field-0 c.in-Ok-true.field-0-test c.in-Ok-true.ensures.serves in
    let more : c.loop-served.served + 1 ≤ c.args.conns = omega arith in (
      c.serve_next.ensures.list ∙ c.loop-served.invariant.0,
      c.serve_next.ensures.states ∙ c.loop-served.invariant.1,
      fell_then _ _ _ c.loop-served.invariant.2 c.serve_next.ensures.later,
      more,
      next.quiet ∙ c.loop-served.invariant.4,
      one_more c.args.routes.now c.args.version before mid now source after source_now c.loop-served.served c.loop-served.invariant.5 next,
    )

pub returns-in-Ok-false-clause-ends : goal.returns-in-Ok-false-clause-ends
returns-in-Ok-false-clause-ends g c =
    let none = none_came Failed c.args.routes.now c.args.version _ _ _ _ c.in-Ok-false.field-0 c.in-Ok-false.field-0-test c.in-Ok-false.ensures.serves in
    all_that_came c.args.routes.now c.args.version c.args.conns _ _ _ _ _ _ c.loop-served.served c.loop-served.invariant.3 c.loop-served.invariant.4 c.loop-served.invariant.5 none
