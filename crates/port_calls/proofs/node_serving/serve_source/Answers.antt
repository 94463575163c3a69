use Rattle.source_node.specs.Serving.{seen}
use Rattle.source_node.specs.ServingLinks.{port_as}
use Rattle.port_calls.specs.Ports.{ports_of}
use Rattle.port_calls.proofs.NodeEnding.{serves_at}
use Rattle.port_calls.proofs.node_serving.serve_source.Goals as goal

pub returns-in-Ok-clause-serves : goal.returns-in-Ok-clause-serves
returns-in-Ok-clause-serves g c =
    let ports = ports_of g.P.Port.links g.P.Port.closed g.P.Port.faults g.P.Port.calls (c.args.port.now, c.serve_links.new.port) in
    let mid = port_as g.P.Port.links g.P.Port.closed g.P.Port.faults g.P.Port.calls c.listen.new.self in
    let source = seen (g.S.Source.list c.args.source.now) (g.S.Source.counts c.args.source.now) (g.S.Source.calls c.args.source.now) (g.S.Source.at_hand c.args.source.now) (g.S.Source.states c.args.source.now) in
    let source_now = seen (g.S.Source.list c.serve_links.new.source) (g.S.Source.counts c.serve_links.new.source) (g.S.Source.calls c.serve_links.new.source) (g.S.Source.at_hand c.serve_links.new.source) (g.S.Source.states c.serve_links.new.source) in
    serves_at c.args.options.now c.args.routes.now ports mid source source_now c.serve_links.result c.requires
    c.in-Ok.ensures.links c.in-Ok.ensures.closed c.in-Ok.ensures.cause.stays c.in-Ok.ensures.calls c.serve_links.ensures.ends
