use Rattle.wire.specs.LinkTold.{told}
use Rattle.wire.proofs.ReplyLaws.{host_from}
use Rattle.wire.proofs.request.read_request.Goals as goal

pub returns-in-Ok-clause-answers : goal.returns-in-Ok-clause-answers
returns-in-Ok-clause-answers g c =
    host_from c.new-feed.result (g.L.Intake.left c.args.link.now) (told c.take_part-asked.new.feed (g.L.Intake.left c.take_part-asked.new.link)) c.in-Ok.asked c.with_host.result
    c.new-feed.ensures c.in-Ok.ensures.takes c.with_host.ensures.kept c.with_host.ensures.broken
