use Rattle.std.proofs.KnownBytes.{Keeps-trans}
use Rattle.std.proofs.Common.{ℕ, List, length, ap, ◌∙◌, arith}
use Rattle.wire.specs.LinkTold.{told}
use Rattle.wire.specs.Sparing.{HoldsBytes}
use Rattle.wire.proofs.SparingLaws.{read_more, grew_then}
use Rattle.wire.proofs.chunks.take_line_end.Goals as goal

pub returns-in_err-fill-clause-sparing : goal.returns-in_err-fill-clause-sparing
returns-in_err-fill-clause-sparing g c =
    read_more (HoldsBytes 2) c.args.feed.now c.loop-feed.feed (g.R.Intake.pieces c.args.link.now) (g.R.Intake.pieces c.loop-feed.link) (g.R.Intake.pieces c.fill.new.link)
    c.loop-feed.invariant.3 c.loop-feed.invariant.4 (λ whole. absurd (omega (arith, whole, c.loop-feed-test.true, ap (λ (xs : List ℕ). length xs) c.came.ensures))) c.in_err-fill.ensures.once

pub returns-then-branch-eq0-clause-sparing : goal.returns-then-branch-eq0-clause-sparing
returns-then-branch-eq0-clause-sparing g c =
    read_more (HoldsBytes 2) c.args.feed.now c.loop-feed.feed (g.R.Intake.pieces c.args.link.now) (g.R.Intake.pieces c.loop-feed.link) (g.R.Intake.pieces c.fill.new.link)
    c.loop-feed.invariant.3 c.loop-feed.invariant.4 (λ whole. absurd (omega (arith, whole, c.loop-feed-test.true, ap (λ (xs : List ℕ). length xs) c.came.ensures))) c.in_ok-fill.ensures.once

pub loop-feed-preserved : goal.loop-feed-preserved
loop-feed-preserved g c = (
  Keeps-trans (told c.args.feed.now (g.R.Intake.left c.args.link.now)) (told c.loop-feed.feed (g.R.Intake.left c.loop-feed.link)) (told c.fill.new.self (g.R.Intake.left c.fill.new.link)) c.loop-feed.invariant.0 c.in_ok-fill.ensures.told,
  c.in_ok-fill.ensures.cause ∙ c.loop-feed.invariant.1,
  c.in_ok-fill.ensures.apart ∙ c.loop-feed.invariant.2,
  read_more (HoldsBytes 2) c.args.feed.now c.loop-feed.feed (g.R.Intake.pieces c.args.link.now) (g.R.Intake.pieces c.loop-feed.link) (g.R.Intake.pieces c.fill.new.link)
      c.loop-feed.invariant.3 c.loop-feed.invariant.4 (λ whole. absurd (omega (arith, whole, c.loop-feed-test.true, ap (λ (xs : List ℕ). length xs) c.came.ensures))) c.in_ok-fill.ensures.once,
  grew_then c.args.feed.now c.loop-feed.feed c.fill.new.self (g.R.Intake.pieces c.args.link.now) (g.R.Intake.pieces c.loop-feed.link) (g.R.Intake.pieces c.fill.new.link) c.loop-feed.invariant.4 c.in_ok-fill.ensures.came,
)
