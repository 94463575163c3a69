use Rattle.std.proofs.Common.{sym, ◌∙◌}
use Rattle.wire.specs.LinkTold.{told}
use Rattle.wire.proofs.ReplyLaws.{start_interim, start_unframed, body_cut}
use Rattle.wire.proofs.WholeLaws.{head_only, body_then}
use Rattle.wire.proofs.response.read_into.Goals as goal

pub returns-then-is_interim-clause-answers : goal.returns-then-is_interim-clause-answers
returns-then-is_interim-clause-answers g c =
    start_interim (told c.args.feed.now (g.R.Intake.left c.args.link.now)) (told c.take_part.new.feed (g.R.Intake.left c.take_part.new.link)) c.in_ok-start.start c.in_ok-start.ensures.takes (sym c.is_interim.ensures ∙ c.if-is_interim.true)

pub returns-in_default-clause-answers : goal.returns-in_default-clause-answers
returns-in_default-clause-answers g c =
    start_unframed (told c.args.feed.now (g.R.Intake.left c.args.link.now)) (told c.take_part.new.feed (g.R.Intake.left c.take_part.new.link)) c.in_ok-start.start c.in_ok-start.ensures.takes c.if-start-ne-OK.false c.in_default.is

pub returns-in-Err-clause-answers : goal.returns-in-Err-clause-answers
returns-in-Err-clause-answers g c =
    body_cut (told c.args.feed.now (g.R.Intake.left c.args.link.now)) (told c.take_part.new.feed (g.R.Intake.left c.take_part.new.link)) c.in_ok-start.start c.in-Some.framing c.take_body.new.body.items c.in-Err.fault c.in_ok-start.ensures.takes c.if-start-ne-OK.false c.in-Some.is c.in-Err.ensures.answers

pub returns-in_err-start-clause-sparing : goal.returns-in_err-start-clause-sparing
returns-in_err-start-clause-sparing g c =
    head_only c.args.feed.now (g.R.Intake.pieces c.args.link.now) (g.R.Intake.pieces c.take_part.new.link) c.in_err-start.ensures.sparing

pub returns-then-is_interim-clause-sparing : goal.returns-then-is_interim-clause-sparing
returns-then-is_interim-clause-sparing g c =
    head_only c.args.feed.now (g.R.Intake.pieces c.args.link.now) (g.R.Intake.pieces c.take_part.new.link) c.in_ok-start.ensures.sparing

pub returns-then-start-ne-OK-clause-sparing : goal.returns-then-start-ne-OK-clause-sparing
returns-then-start-ne-OK-clause-sparing g c =
    head_only c.args.feed.now (g.R.Intake.pieces c.args.link.now) (g.R.Intake.pieces c.take_part.new.link) c.in_ok-start.ensures.sparing

pub returns-in_default-clause-sparing : goal.returns-in_default-clause-sparing
returns-in_default-clause-sparing g c =
    head_only c.args.feed.now (g.R.Intake.pieces c.args.link.now) (g.R.Intake.pieces c.take_part.new.link) c.in_ok-start.ensures.sparing

pub returns-in-Ok-clause-sparing : goal.returns-in-Ok-clause-sparing
returns-in-Ok-clause-sparing g c =
    body_then c.in_ok-start.start c.in-Some.framing c.args.feed.now c.take_part.new.feed (g.R.Intake.pieces c.args.link.now) (g.R.Intake.pieces c.take_part.new.link) (g.R.Intake.pieces c.take_body.new.link) c.if-start-ne-OK.false c.in-Some.is c.in_ok-start.ensures.sparing c.in_ok-start.ensures.came c.in-Ok.ensures.sparing

pub returns-in-Err-clause-sparing : goal.returns-in-Err-clause-sparing
returns-in-Err-clause-sparing g c =
    body_then c.in_ok-start.start c.in-Some.framing c.args.feed.now c.take_part.new.feed (g.R.Intake.pieces c.args.link.now) (g.R.Intake.pieces c.take_part.new.link) (g.R.Intake.pieces c.take_body.new.link) c.if-start-ne-OK.false c.in-Some.is c.in_ok-start.ensures.sparing c.in_ok-start.ensures.came c.in-Err.ensures.sparing
