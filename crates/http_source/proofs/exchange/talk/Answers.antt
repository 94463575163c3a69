use Rattle.std.proofs.Common.{◌∙◌, sym, subst}
use Rattle.tk_io.specs.Links.{IsUnread}
use Rattle.wire.specs.Sparing.{HoldsResponse}
use Rattle.wire.proofs.SparingLaws.{sparing_fresh, unread_sparing}
use Rattle.http_source.proofs.TalkLaws.{took_all, counts_reads, took_front, counts_writes}
use Rattle.http_source.proofs.exchange.talk.Goals as goal

pub returns-in-Ok-clause-took : goal.returns-in-Ok-clause-took
returns-in-Ok-clause-took g c = took_all _ _ _ _ c.read_response.result c.in-Ok.ensures.writes.whole c.read_response.ensures.outgoing.0

pub returns-in-Ok-clause-cause : goal.returns-in-Ok-clause-cause
returns-in-Ok-clause-cause g c =
    counts_reads _ _ _ c.read_response.result (c.in-Ok.ensures.incoming.1 ∙ c.requires.reads) (c.read_response.ensures.outgoing.1 ∙ (c.in-Ok.ensures.writes.cause.stays ∙ c.requires.writes))
    c.read_response.ensures.cause

pub returns-in-Err-clause-took : goal.returns-in-Err-clause-took
returns-in-Err-clause-took g c = took_front _ _ _ c.in-Err.fault c.in-Err.ensures.fault c.in-Err.ensures.writes.front

pub returns-in-Err-clause-cause : goal.returns-in-Err-clause-cause
returns-in-Err-clause-cause g c = counts_writes _ _ _ c.in-Err.fault c.in-Err.ensures.fault c.requires.writes c.in-Err.ensures.writes.cause.failed

pub returns-in-Ok-clause-sparing : goal.returns-in-Ok-clause-sparing
returns-in-Ok-clause-sparing g c =
    sparing_fresh HoldsResponse (g.L.Intake.pieces c.write_request.new.link) (g.L.Intake.pieces c.read_response.new.link)
    (subst IsUnread (sym c.in-Ok.ensures.incoming.2) c.requires.unread) c.read_response.ensures.sparing

pub returns-in-Err-clause-sparing : goal.returns-in-Err-clause-sparing
returns-in-Err-clause-sparing g c = unread_sparing HoldsResponse (g.L.Intake.pieces c.write_request.new.link) (subst IsUnread (sym c.in-Err.ensures.incoming.2) c.requires.unread)
