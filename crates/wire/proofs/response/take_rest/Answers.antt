use Rattle.std.proofs.Common.{◌∙◌, arith}
use Rattle.wire.specs.LinkTold.{told}
use Rattle.wire.proofs.StepLaws.{rest_ended}
use Rattle.wire.proofs.WholeLaws.{rest_then, told_more}
use Rattle.wire.proofs.response.take_rest.Goals as goal

pub returns-then-branch-eq0-clause-answers : goal.returns-then-branch-eq0-clause-answers
returns-then-branch-eq0-clause-answers g c =
    let pulled = c.in_ok-pull.ensures.pulled in
    rest_ended (told c.args.feed.now (g.R.Intake.left c.args.link.now)) (told c.loop-body.feed (g.R.Intake.left c.loop-body.link)) (told c.pull.new.self (g.R.Intake.left c.pull.new.link)) c.loop-body.body.items c.pull.new.text.items c.in_ok-pull.field-0
    c.loop-body.invariant.3 (pulled.0, pulled.1, pulled.2, pulled.3, omega (arith, c.if-branch-eq0.true)) c.if-branch-eq0.true (c.in_ok-pull.ensures.ended c.if-branch-eq0.true)
    (omega (arith, c.loop-body-test.true, c.len.ensures, c.loop-body.body.ok.0))

pub returns-in_err-pull-clause-sparing : goal.returns-in_err-pull-clause-sparing
returns-in_err-pull-clause-sparing g c =
    rest_then c.args.feed.now c.loop-body.feed (g.R.Intake.pieces c.args.link.now) (g.R.Intake.pieces c.loop-body.link) (g.R.Intake.pieces c.pull.new.link) c.loop-body.invariant.2 c.in_err-pull.ensures.sparing

pub returns-then-branch-eq0-clause-sparing : goal.returns-then-branch-eq0-clause-sparing
returns-then-branch-eq0-clause-sparing g c =
    rest_then c.args.feed.now c.loop-body.feed (g.R.Intake.pieces c.args.link.now) (g.R.Intake.pieces c.loop-body.link) (g.R.Intake.pieces c.pull.new.link) c.loop-body.invariant.2 c.in_ok-pull.ensures.sparing

pub loop-body-preserved : goal.loop-body-preserved
loop-body-preserved g c = (
  c.in_ok-pull.ensures.cause ∙ c.loop-body.invariant.0,
  c.in_ok-pull.ensures.apart ∙ c.loop-body.invariant.1,
  rest_then c.args.feed.now c.loop-body.feed (g.R.Intake.pieces c.args.link.now) (g.R.Intake.pieces c.loop-body.link) (g.R.Intake.pieces c.pull.new.link) c.loop-body.invariant.2 c.in_ok-pull.ensures.sparing,
  told_more (told c.args.feed.now (g.R.Intake.left c.args.link.now)) (told c.loop-body.feed (g.R.Intake.left c.loop-body.link)) (told c.pull.new.self (g.R.Intake.left c.pull.new.link)) c.loop-body.body.items c.pull.new.text.items c.in_ok-pull.ensures.pulled.0
      c.loop-body.invariant.3 c.in_ok-pull.ensures.pulled.1 c.in_ok-pull.ensures.pulled.2,
)
