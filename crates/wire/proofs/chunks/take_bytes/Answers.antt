use Rattle.std.proofs.Common.{◌-◌, ◌∙◌, arith}
use Rattle.wire.specs.LinkTold.{told}
use Rattle.wire.proofs.WholeLaws.{bytes_then, pulled_all, pulled_then, told_then}
use Rattle.wire.proofs.chunks.take_bytes.Goals as goal

pub returns-in_err-pulled-clause-sparing : goal.returns-in_err-pulled-clause-sparing
returns-in_err-pulled-clause-sparing g c =
    bytes_then c.args.count (c.args.count - c.loop-left.left) c.args.feed.now c.loop-left.feed c.args.body.now.items c.loop-left.body.items (g.R.Intake.pieces c.args.link.now) (g.R.Intake.pieces c.loop-left.link) (g.R.Intake.pieces c.pull.new.link)
    (omega (arith, c.loop-left-test.true, c.loop-left.invariant.7)) c.loop-left.invariant.2 c.loop-left.invariant.3 c.in_err-pulled.ensures.sparing

pub returns-then-pulled-eq0-clause-sparing : goal.returns-then-pulled-eq0-clause-sparing
returns-then-pulled-eq0-clause-sparing g c =
    bytes_then c.args.count (c.args.count - c.loop-left.left) c.args.feed.now c.loop-left.feed c.args.body.now.items c.loop-left.body.items (g.R.Intake.pieces c.args.link.now) (g.R.Intake.pieces c.loop-left.link) (g.R.Intake.pieces c.pull.new.link)
    (omega (arith, c.loop-left-test.true, c.loop-left.invariant.7)) c.loop-left.invariant.2 c.loop-left.invariant.3 c.in_ok-pulled.ensures.sparing

pub returns-clause-came : goal.returns-clause-came
returns-clause-came g c =
    pulled_all c.args.feed.now c.loop-left.feed c.args.body.now.items c.loop-left.body.items (g.R.Intake.pieces c.args.link.now) (g.R.Intake.pieces c.loop-left.link) (c.args.count - c.loop-left.left) c.args.count
    (omega (arith, c.loop-left-test.false)) c.loop-left.invariant.3

pub loop-left-preserved : goal.loop-left-preserved
loop-left-preserved g c =
    let all = told_then (told c.args.feed.now (g.R.Intake.left c.args.link.now)) (told c.loop-left.feed (g.R.Intake.left c.loop-left.link)) (told c.pull.new.self (g.R.Intake.left c.pull.new.link))
    c.args.body.now.items c.loop-left.body.items c.pull.new.text.items c.loop-left.invariant.4 c.in_ok-pulled.ensures.pulled.0 c.loop-left.left c.args.count c.in_ok-pulled.pulled
    c.loop-left.invariant.5 c.loop-left.invariant.6 c.loop-left.invariant.7 c.in_ok-pulled.ensures.pulled.1 c.in_ok-pulled.ensures.pulled.2 c.in_ok-pulled.ensures.pulled.3 c.in_ok-pulled.ensures.pulled.4 in (
      c.in_ok-pulled.ensures.cause ∙ c.loop-left.invariant.0,
      c.in_ok-pulled.ensures.apart ∙ c.loop-left.invariant.1,
      bytes_then c.args.count (c.args.count - c.loop-left.left) c.args.feed.now c.loop-left.feed c.args.body.now.items c.loop-left.body.items (g.R.Intake.pieces c.args.link.now) (g.R.Intake.pieces c.loop-left.link) (g.R.Intake.pieces c.pull.new.link)
          (omega (arith, c.loop-left-test.true, c.loop-left.invariant.7)) c.loop-left.invariant.2 c.loop-left.invariant.3 c.in_ok-pulled.ensures.sparing,
      pulled_then c.args.feed.now c.loop-left.feed c.pull.new.self c.args.body.now.items c.loop-left.body.items c.pull.new.text.items (g.R.Intake.pieces c.args.link.now) (g.R.Intake.pieces c.loop-left.link) (g.R.Intake.pieces c.pull.new.link)
          (c.args.count - c.loop-left.left) c.in_ok-pulled.pulled (c.args.count - (c.loop-left.left - c.in_ok-pulled.pulled))
          (omega (arith, c.loop-left.invariant.7, c.in_ok-pulled.ensures.pulled.4)) c.loop-left.invariant.3 c.in_ok-pulled.ensures.came,
      all.0,
      all.1,
      all.2,
      all.3,
    )
