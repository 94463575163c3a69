use Rattle.std.proofs.Common.{Ok, refl, sym, ◌∙◌}
use Rattle.source_node.specs.Connections.{Visit}
use Rattle.source_node.specs.Serving.{seen}
use Rattle.source_node.proofs.EndLaws.{replied, unheard}
use Rattle.source_node.proofs.node.node_conn.Goals as goal

pub returns-in-Ok-clause-ends : goal.returns-in-Ok-clause-ends
returns-in-Ok-clause-ends g c =
    let r = c.answer_head-end.ensures.replied in
    let visit : Visit = record {
      came = g.L.Intake.left c.args.link.now;
      held = g.L.Sink.held c.args.link.now;
      held_now = g.L.Sink.held c.answer_head-end.new.link;
      read_faults = g.L.Intake.faults c.args.link.now;
      read_faults_now = g.L.Intake.faults c.answer_head-end.new.link;
      write_faults = g.L.Sink.faults c.args.link.now;
      write_faults_now = g.L.Sink.faults c.answer_head-end.new.link;
      source = seen (g.S.Source.list c.args.source.now) (g.S.Source.counts c.args.source.now) (g.S.Source.calls c.args.source.now) (g.S.Source.at_hand c.args.source.now) (g.S.Source.states c.args.source.now);
      source_now = seen (g.S.Source.list c.answer_head-end.new.source) (g.S.Source.counts c.answer_head-end.new.source) (g.S.Source.calls c.answer_head-end.new.source) (g.S.Source.at_hand c.answer_head-end.new.source) (g.S.Source.states c.answer_head-end.new.source);
    } in
    replied c.args.routes.now c.args.version visit (g.L.Sink.held c.read_request.new.link) (g.L.Sink.faults c.read_request.new.link) (Ok c.in-Ok.head) r.0
    c.answer_head-end.result c.in-Ok.ensures.answers (c.answer_head-end.ensures.incoming.1 ∙ c.in-Ok.ensures.cause) c.read_request.ensures.outgoing.0
    c.read_request.ensures.outgoing.1 r.1 r.2

pub returns-in-Some-clause-ends : goal.returns-in-Some-clause-ends
returns-in-Some-clause-ends g c =
    let visit : Visit = record {
      came = g.L.Intake.left c.args.link.now;
      held = g.L.Sink.held c.args.link.now;
      held_now = g.L.Sink.held c.refuse.new.link;
      read_faults = g.L.Intake.faults c.args.link.now;
      read_faults_now = g.L.Intake.faults c.refuse.new.link;
      write_faults = g.L.Sink.faults c.args.link.now;
      write_faults_now = g.L.Sink.faults c.refuse.new.link;
      source = seen (g.S.Source.list c.args.source.now) (g.S.Source.counts c.args.source.now) (g.S.Source.calls c.args.source.now) (g.S.Source.at_hand c.args.source.now) (g.S.Source.states c.args.source.now);
      source_now = seen (g.S.Source.list c.args.source.now) (g.S.Source.counts c.args.source.now) (g.S.Source.calls c.args.source.now) (g.S.Source.at_hand c.args.source.now) (g.S.Source.states c.args.source.now);
    } in
    unheard c.args.routes.now c.args.version visit (g.L.Sink.held c.read_request.new.link) (g.L.Sink.faults c.read_request.new.link)
    (g.L.Intake.faults c.read_request.new.link) c.in-Err.fault c.in-Some.why c.refuse.result (sym c.refusal_of.ensures ∙ c.in-Some.is)
    c.in-Err.ensures.answers c.in-Err.ensures.cause c.refuse.ensures.incoming.1 c.read_request.ensures.outgoing.0
    c.read_request.ensures.outgoing.1 refl c.refuse.ensures.sends
