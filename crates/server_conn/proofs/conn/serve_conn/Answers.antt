use Rattle.std.proofs.Common.{Ok, refl, sym, ◌∙◌}
use Rattle.server_conn.specs.Entries.{view_in}
use Rattle.server_conn.specs.Connections.{Visit}
use Rattle.query_run.proofs.KnowsLaws.{knows_same}
use Rattle.wire.proofs.RefusalLaws.{unrefused_rose}
use Rattle.server_conn.proofs.EndLaws.{replied, unheard, unread, refusal_sent}
use Rattle.server_conn.proofs.conn.serve_conn.Goals as goal

pub returns-in-Ok-clause-ends : goal.returns-in-Ok-clause-ends
returns-in-Ok-clause-ends g c =
    let r = c.answer_head-turn.ensures.replied in
    let visit : Visit = record {
      came = g.L.Intake.left c.args.link.now;
      held = g.L.Sink.held c.args.link.now;
      held_now = g.L.Sink.held c.answer_head-turn.new.link;
      read_faults = g.L.Intake.faults c.args.link.now;
      read_faults_now = g.L.Intake.faults c.answer_head-turn.new.link;
      write_faults = g.L.Sink.faults c.args.link.now;
      write_faults_now = g.L.Sink.faults c.answer_head-turn.new.link;
      before = record { holds = c.args.pass.now; answers = c.args.answers.now };
      now = record { holds = c.answer_head-turn.new.pass; answers = c.answer_head-turn.new.answers };
    } in
    replied (view_in c.args.catalog.now) visit (g.L.Sink.held c.read_request.new.link) (g.L.Sink.faults c.read_request.new.link) (Ok c.in-Ok.head) r.0
    c.answer_head-turn.result c.requires.remembers c.in-Ok.ensures.answers (c.answer_head-turn.ensures.incoming.1 ∙ c.in-Ok.ensures.cause) c.read_request.ensures.outgoing.0
    c.read_request.ensures.outgoing.1 r.1 r.2

pub returns-in-Some-clause-knows : goal.returns-in-Some-clause-knows
returns-in-Some-clause-knows g c = knows_same c.args.pass.now

pub returns-in-Some-clause-ends : goal.returns-in-Some-clause-ends
returns-in-Some-clause-ends g c =
    let visit : Visit = record {
      came = g.L.Intake.left c.args.link.now;
      held = g.L.Sink.held c.args.link.now;
      held_now = g.L.Sink.held c.refuse.new.link;
      read_faults = g.L.Intake.faults c.args.link.now;
      read_faults_now = g.L.Intake.faults c.refuse.new.link;
      write_faults = g.L.Sink.faults c.args.link.now;
      write_faults_now = g.L.Sink.faults c.refuse.new.link;
      before = record { holds = c.args.pass.now; answers = c.args.answers.now };
      now = record { holds = c.args.pass.now; answers = c.args.answers.now };
    } in
    unheard (view_in c.args.catalog.now) visit (g.L.Sink.held c.read_request.new.link) (g.L.Sink.faults c.read_request.new.link)
    (g.L.Intake.faults c.read_request.new.link) c.in-Err.fault c.in-Some.why c.unmoved.result c.requires.remembers (sym c.refusal_of.ensures ∙ c.in-Some.is)
    c.in-Err.ensures.answers c.in-Err.ensures.cause c.refuse.ensures.incoming.1 c.read_request.ensures.outgoing.0 c.read_request.ensures.outgoing.1 refl
    (refusal_sent _ _ _ _ _ _ _ _ c.unmoved.ensures c.refuse.ensures.sends)

pub returns-in-None-clause-knows : goal.returns-in-None-clause-knows
returns-in-None-clause-knows g c = knows_same c.args.pass.now

pub returns-in-None-clause-ends : goal.returns-in-None-clause-ends
returns-in-None-clause-ends g c =
    let visit : Visit = record {
      came = g.L.Intake.left c.args.link.now;
      held = g.L.Sink.held c.args.link.now;
      held_now = g.L.Sink.held c.read_request.new.link;
      read_faults = g.L.Intake.faults c.args.link.now;
      read_faults_now = g.L.Intake.faults c.read_request.new.link;
      write_faults = g.L.Sink.faults c.args.link.now;
      write_faults_now = g.L.Sink.faults c.read_request.new.link;
      before = record { holds = c.args.pass.now; answers = c.args.answers.now };
      now = record { holds = c.args.pass.now; answers = c.args.answers.now };
    } in
    unread (view_in c.args.catalog.now) visit _ c.requires.remembers c.unmoved-in-None.ensures
    (unrefused_rose visit.read_faults visit.read_faults_now c.in-Err.fault (sym c.refusal_of.ensures ∙ c.in-None.is) c.in-Err.ensures.cause)
    c.read_request.ensures.outgoing.0 c.read_request.ensures.outgoing.1 refl
