use Rattle.std.proofs.KnownBytes.{Keeps-trans}
use Rattle.std.proofs.Common.{◌<◌, ◌∙◌, length, subst}
use Rattle.wire.specs.LinkTold.{told}
use Rattle.wire.proofs.PartLaws.{takes_beyond}
use Rattle.wire.proofs.SparingLaws.{read_on, grew_then, of_found}
use Rattle.wire.proofs.part.take_part.Goals as goal

pub returns-then-came-LIMIT-clause-takes : goal.returns-then-came-LIMIT-clause-takes
returns-then-came-LIMIT-clause-takes g c =
    rw c.LIMIT-then-came-LIMIT.ensures
    (takes_beyond g.P.MessagePart.Valid g.P.MessagePart.print g.P.MessagePart.Says g.P.MessagePart.Passes g.P.MessagePart.LIMIT _ _ _ _ _ _ c.in_ok-found.field-0 g.met.P.MessagePart.beyond
    c.loop-found.invariant.0 c.came.ensures c.in_ok-found.ensures c.in-None.is c.came-in-loop-found.ensures (subst (λ n. n < length c.came-in-loop-found.result.now) c.LIMIT.ensures c.if-came-LIMIT.true))

pub returns-in_err-fill-clause-sparing : goal.returns-in_err-fill-clause-sparing
returns-in_err-fill-clause-sparing g c =
    read_on g.P.MessagePart.Valid g.P.MessagePart.print g.P.MessagePart.Says g.P.MessagePart.Passes c.args.feed.now c.loop-found.feed c.came.result.now (g.R.Intake.pieces c.args.link.now) (g.R.Intake.pieces c.loop-found.link) (g.R.Intake.pieces c.fill.new.link) c.in_ok-found.field-0
    c.loop-found.invariant.3 c.loop-found.invariant.4 c.came.ensures c.in_ok-found.ensures c.in-None.is c.in_err-fill.ensures.once

pub returns-then-branch-eq0-clause-sparing : goal.returns-then-branch-eq0-clause-sparing
returns-then-branch-eq0-clause-sparing g c =
    read_on g.P.MessagePart.Valid g.P.MessagePart.print g.P.MessagePart.Says g.P.MessagePart.Passes c.args.feed.now c.loop-found.feed c.came.result.now (g.R.Intake.pieces c.args.link.now) (g.R.Intake.pieces c.loop-found.link) (g.R.Intake.pieces c.fill.new.link) c.in_ok-found.field-0
    c.loop-found.invariant.3 c.loop-found.invariant.4 c.came.ensures c.in_ok-found.ensures c.in-None.is c.in_ok-fill.ensures.once

pub loop-found-preserved : goal.loop-found-preserved
loop-found-preserved g c = (
  Keeps-trans (told c.args.feed.now (g.R.Intake.left c.args.link.now)) (told c.loop-found.feed (g.R.Intake.left c.loop-found.link)) (told c.fill.new.self (g.R.Intake.left c.fill.new.link)) c.loop-found.invariant.0 c.in_ok-fill.ensures.told,
  c.in_ok-fill.ensures.cause ∙ c.loop-found.invariant.1,
  c.in_ok-fill.ensures.apart ∙ c.loop-found.invariant.2,
  read_on g.P.MessagePart.Valid g.P.MessagePart.print g.P.MessagePart.Says g.P.MessagePart.Passes c.args.feed.now c.loop-found.feed c.came.result.now (g.R.Intake.pieces c.args.link.now) (g.R.Intake.pieces c.loop-found.link) (g.R.Intake.pieces c.fill.new.link) c.in_ok-found.field-0
      c.loop-found.invariant.3 c.loop-found.invariant.4 c.came.ensures c.in_ok-found.ensures c.in-None.is c.in_ok-fill.ensures.once,
  grew_then c.args.feed.now c.loop-found.feed c.fill.new.self (g.R.Intake.pieces c.args.link.now) (g.R.Intake.pieces c.loop-found.link) (g.R.Intake.pieces c.fill.new.link) c.loop-found.invariant.4 c.in_ok-fill.ensures.came,
)

pub returns-in-Some-clause-came : goal.returns-in-Some-clause-came
returns-in-Some-clause-came g c =
    of_found g.P.MessagePart.Valid g.P.MessagePart.print g.P.MessagePart.Says g.P.MessagePart.Passes c.args.feed.now c.loop-found.feed c.came.result.now c.take.new.self (g.R.Intake.pieces c.args.link.now) (g.R.Intake.pieces c.loop-found.link) c.in_ok-found.field-0 c.in-Some.found
    c.loop-found.invariant.4 c.came.ensures c.in_ok-found.ensures c.in-Some.is c.take.ensures
