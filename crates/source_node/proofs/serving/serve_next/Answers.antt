use Rattle.std.proofs.Common.{◌≡◌, [], ◌∷◌, Ok, ap, subst, ◌∙◌, rules}
use Rattle.tk_io.specs.Calls.{PortCall, accepted, with_more}
use Rattle.tk_io.specs.Links.{GivesFirst, IsFresh}
use Rattle.source_node.specs.Serving.{seen}
use Rattle.source_node.specs.ServingLinks.{port_as}
use Rattle.source_node.proofs.ServingLaws.{first_served}
use Rattle.source_node.proofs.serving.serve_next.Goals as goal

pub returns-in-Ok-Some-clause-serves : goal.returns-in-Ok-Some-clause-serves
returns-in-Ok-Some-clause-serves g c =
    let before = port_as g.P.Port.links g.P.Port.closed g.P.Port.faults g.P.Port.calls c.args.port.now in
    let mid = port_as g.P.Port.links g.P.Port.closed g.P.Port.faults g.P.Port.calls c.accept.new.self in
    let now = port_as g.P.Port.links g.P.Port.closed g.P.Port.faults g.P.Port.calls c.serve_link.new.port in
    let source = seen (g.S.Source.list c.args.source.now) (g.S.Source.counts c.args.source.now) (g.S.Source.calls c.args.source.now) (g.S.Source.at_hand c.args.source.now) (g.S.Source.states c.args.source.now) in
    let source_now = seen (g.S.Source.list c.serve_link.new.source) (g.S.Source.counts c.serve_link.new.source) (g.S.Source.calls c.serve_link.new.source) (g.S.Source.at_hand c.serve_link.new.source) (g.S.Source.states c.serve_link.new.source) in
    let came = g.P.L.Intake.left c.in-Ok-Some.link in
    let held = g.P.L.Sink.held c.in-Ok-Some.link in
    let given : GivesFirst (g.P.Port.links c.args.port.now) (g.P.Port.links c.accept.new.self) came held = search rules in
    let fresh : IsFresh held (g.P.L.Intake.faults c.in-Ok-Some.link) (g.P.L.Sink.faults c.in-Ok-Some.link) (g.P.L.Intake.pieces c.in-Ok-Some.link) = search rules in
    let gave : g.P.Port.calls c.accept.new.self ≡ with_more (PortCall.Gave ∷ []) (g.P.Port.calls c.args.port.now) =
    subst (λ (call : PortCall). g.P.Port.calls c.accept.new.self ≡ with_more (call ∷ []) (g.P.Port.calls c.args.port.now)) (ap accepted (c.in-Ok-Some.is ∙ ap Ok c.in-Ok-Some.field-0-is)) c.accept.ensures.calls in
    first_served c.args.routes.now c.args.version before mid now came held source source_now given fresh.taken c.in-Ok-Some.ensures.closed
    c.in-Ok-Some.ensures.cause.stays gave c.serve_link.ensures.links c.serve_link.ensures.faults c.serve_link.ensures.calls c.serve_link.ensures.serves
    c.serve_link.ensures.list c.serve_link.ensures.states
