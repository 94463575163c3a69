use Rattle.std.proofs.Common.{arith}
use Rattle.std.proofs.lemmas.Result.{err_from_is_err_and}
use Rattle.wire.specs.LinkTold.{told}
use Rattle.wire.proofs.StepLaws.{counted_cut, counted_taken}
use Rattle.wire.proofs.response.take_counted.Goals as goal

pub returns-in_err-take_bytes-clause-answers : goal.returns-in_err-take_bytes-clause-answers
returns-in_err-take_bytes-clause-answers g c =
    let p = err_from_is_err_and c.from_residual.result c.from_residual.ensures.1 in
    rw (p.1, p.2) (counted_cut (told c.args.feed.now (g.R.Intake.left c.args.link.now)) (told c.take_bytes.new.feed (g.R.Intake.left c.take_bytes.new.link)) c.args.count c.args.body.now.items c.take_bytes.new.body.items _ c.in_err-take_bytes.ensures.takes)

pub returns-clause-answers : goal.returns-clause-answers
returns-clause-answers g c =
    counted_taken (told c.args.feed.now (g.R.Intake.left c.args.link.now)) (told c.take_bytes.new.feed (g.R.Intake.left c.take_bytes.new.link)) c.args.count c.args.body.now.items c.take_bytes.new.body.items c.requires (omega (arith, c.if-count.false))
    c.in_ok-take_bytes.ensures.takes
