use Rattle.std.proofs.Common.{ℕ, List, Option, subst, ◌∙◌}
use Rattle.tk_io.specs.Links.{Closed, ClosesOne}
use Rattle.http_source.specs.Exchanges.{DialsOnce}
use Rattle.http_source.proofs.AskLaws.{asked, not_none, body_unmoved, link_of, fails_of}
use Rattle.http_source.proofs.LinkLaws.{dials_once}
use Rattle.http_source.proofs.exchange.ask.Goals as goal

pub returns-clause-answers : goal.returns-clause-answers
returns-clause-answers g c =
    let law = c.a_reply_is_the_only_answer.ensures in
    rw c.body_in.ensures (asked law.only law.whole law.short _ _ _ _ c.talk-reply.result c.in-Ok.ensures.given c.talk-reply.ensures.answers)

pub returns-clause-unlinked : goal.returns-clause-unlinked
returns-clause-unlinked g c = λ none. absurd (not_none _ _ _ _ c.in-Ok.ensures.given none)

pub returns-clause-unmoved : goal.returns-clause-unmoved
returns-clause-unmoved g c = rw c.body_in.ensures (body_unmoved c.talk-reply.result)

pub returns-clause-cause : goal.returns-clause-cause
returns-clause-cause g c =
    rw c.body_in.ensures (fails_of _ _ _ _ c.talk-reply.result c.in-Ok.ensures.cause.stays c.hang_up.ensures.faults c.talk-reply.ensures.cause)

pub returns-clause-dialled : goal.returns-clause-dialled
returns-clause-dialled g c =
    subst (λ (host : List ℕ). DialsOnce (record { host = host; port = c.args.place.now.port }) (g.D.Dial.dialled c.args.dial.now) (g.D.Dial.dialled c.hang_up.new.self) c.body_in.result)
    c.as_str.ensures.value (dials_once _ _ _ c.body_in.result (c.hang_up.ensures.dialled ∙ c.in-Ok.ensures.dialled))

pub returns-clause-link : goal.returns-clause-link
returns-clause-link g c =
    let one : Closed = record {
      taken = g.D.L.Sink.held c.talk-reply.new.link;
      read_faults = g.D.L.Intake.faults c.talk-reply.new.link;
      write_faults = g.D.L.Sink.faults c.talk-reply.new.link;
      pieces = g.D.L.Intake.pieces c.talk-reply.new.link;
    } in
    let closes : ClosesOne (g.D.Dial.closed c.args.dial.now) (g.D.Dial.closed c.hang_up.new.self) one =
    subst (λ (closed : Option (List Closed)). ClosesOne closed (g.D.Dial.closed c.hang_up.new.self) one) c.in-Ok.ensures.closed c.hang_up.ensures.closed in
    rw c.body_in.ensures
    (link_of _ _ _ _ _ _ _ _ one c.talk-reply.result c.in-Ok.ensures.given c.talk-reply.ensures.took c.hang_up.ensures.links closes c.talk-reply.ensures.sparing)
