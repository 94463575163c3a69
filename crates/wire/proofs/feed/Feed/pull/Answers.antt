use Rattle.std.proofs.Common.{◌≡◌, length, arith, rules}
use Rattle.wire.specs.Sparing.{HoldsBytes}
use Rattle.wire.proofs.SparingLaws.{sparing_read}
use Rattle.wire.proofs.StepLaws.{pulled}
use Rattle.wire.proofs.WholeLaws.{pulled_came, pulled_read}
use Rattle.wire.proofs.feed.Feed.pull.Goals as goal

pub returns-clause-pulled : goal.returns-clause-pulled
returns-clause-pulled g c =
    pulled c.args.self.now c.came-came.result.now c.take.new.self c.args.text.now.items c.extend_from_slice.new.self.items (g.R.Intake.left c.args.link.now) c.min-count.result c.args.most
    c.came-came.ensures c.take.ensures c.in_ok-extend_from_slice.ensures.items (omega (arith, c.min-count.ensures)) (omega (arith, c.min-count.ensures))

pub returns-clause-came : goal.returns-clause-came
returns-clause-came g c =
    pulled_came c.args.self.now c.came-came.result.now c.take.new.self c.args.text.now.items c.extend_from_slice.new.self.items (g.R.Intake.pieces c.args.link.now) c.min-count.result
    c.came-came.ensures c.take.ensures c.in_ok-extend_from_slice.ensures.items (omega (arith, c.min-count.ensures))

pub returns-then-is_empty-clause-sparing : goal.returns-then-is_empty-clause-sparing
returns-then-is_empty-clause-sparing g c =
    let none : length c.args.self.now ≡ 0 = search rules in
    sparing_read (HoldsBytes 1) c.args.self.now (g.R.Intake.pieces c.args.link.now) (g.R.Intake.pieces c.read_to.new.link) (λ whole. absurd (omega (arith, whole, none))) c.read_to.ensures.once

pub returns-then-is_empty-clause-came : goal.returns-then-is_empty-clause-came
returns-then-is_empty-clause-came g c =
    let none : length c.args.self.now ≡ 0 = search rules in
    pulled_read c.args.self.now c.args.text.now.items c.read_to.new.text.items (g.R.Intake.left c.args.link.now) (g.R.Intake.left c.read_to.new.link) c.min.result
    (g.R.Intake.pieces c.args.link.now) (g.R.Intake.pieces c.read_to.new.link) c.read_to.result none c.read_to.ensures.came c.read_to.ensures.given
