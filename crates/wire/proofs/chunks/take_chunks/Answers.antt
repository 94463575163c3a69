use Rattle.std.proofs.Common.{◌∙◌, arith}
use Rattle.std.proofs.lemmas.Result.{err_from_is_err_and}
use Rattle.wire.specs.LinkTold.{told}
use Rattle.wire.proofs.StepLaws.{chunks_cut, chunks_more, body_grew}
use Rattle.wire.proofs.WholeLaws.{chunks_then, took_then, took_last}
use Rattle.wire.proofs.chunks.take_chunks.Goals as goal

pub returns-in_err-take_chunk-clause-takes : goal.returns-in_err-take_chunk-clause-takes
returns-in_err-take_chunk-clause-takes g c =
    let p = err_from_is_err_and c.from_residual.result c.from_residual.ensures.1 in
    rw (p.1, p.2) (chunks_cut (told c.args.feed.now (g.R.Intake.left c.args.link.now)) (told c.loop.feed (g.R.Intake.left c.loop.link)) (told c.take_chunk.new.feed (g.R.Intake.left c.take_chunk.new.link)) c.loop.body.items c.take_chunk.new.body.items _ c.loop.invariant.5 c.in_err-take_chunk.ensures.takes)

pub loop-preserved : goal.loop-preserved
loop-preserved g c =
    let cut = c.in_ok-take_chunk.ensures.takes in
    let grew = body_grew (told c.loop.feed (g.R.Intake.left c.loop.link)) (told c.take_chunk.new.feed (g.R.Intake.left c.take_chunk.new.link)) c.loop.body.items c.take_chunk.new.body.items c.in_ok-take_chunk.field-0 cut c.if-branch.true in (
      c.in_ok-take_chunk.ensures.cause ∙ c.loop.invariant.0,
      c.in_ok-take_chunk.ensures.apart ∙ c.loop.invariant.1,
      chunks_then c.args.feed.now c.loop.feed c.loop.body.items (g.R.Intake.pieces c.args.link.now) (g.R.Intake.pieces c.loop.link) (g.R.Intake.pieces c.take_chunk.new.link) c.loop.invariant.2 c.loop.invariant.3 c.in_ok-take_chunk.ensures.sparing,
      took_then c.args.feed.now c.loop.feed c.take_chunk.new.feed c.loop.body.items c.take_chunk.new.body.items (g.R.Intake.pieces c.args.link.now) (g.R.Intake.pieces c.loop.link) (g.R.Intake.pieces c.take_chunk.new.link) c.in_ok-take_chunk.field-0 c.if-branch.true c.loop.invariant.3 c.in_ok-take_chunk.ensures.came,
      omega (arith, grew.1, c.take_chunk.new.body.ok.0),
      chunks_more (told c.args.feed.now (g.R.Intake.left c.args.link.now)) (told c.loop.feed (g.R.Intake.left c.loop.link)) (told c.take_chunk.new.feed (g.R.Intake.left c.take_chunk.new.link)) c.loop.body.items c.take_chunk.new.body.items c.in_ok-take_chunk.field-0 c.loop.invariant.5 cut c.if-branch.true,
    )

pub returns-in_err-take_chunk-clause-sparing : goal.returns-in_err-take_chunk-clause-sparing
returns-in_err-take_chunk-clause-sparing g c =
    chunks_then c.args.feed.now c.loop.feed c.loop.body.items (g.R.Intake.pieces c.args.link.now) (g.R.Intake.pieces c.loop.link) (g.R.Intake.pieces c.take_chunk.new.link) c.loop.invariant.2 c.loop.invariant.3 c.in_err-take_chunk.ensures.sparing

pub returns-clause-sparing : goal.returns-clause-sparing
returns-clause-sparing g c =
    chunks_then c.args.feed.now c.loop.feed c.loop.body.items (g.R.Intake.pieces c.args.link.now) (g.R.Intake.pieces c.loop.link) (g.R.Intake.pieces c.take_chunk.new.link) c.loop.invariant.2 c.loop.invariant.3 c.in_ok-take_chunk.ensures.sparing

pub returns-clause-came : goal.returns-clause-came
returns-clause-came g c =
    took_last c.args.feed.now c.loop.feed c.take_chunk.new.feed c.loop.body.items c.take_chunk.new.body.items (g.R.Intake.pieces c.args.link.now) (g.R.Intake.pieces c.loop.link) (g.R.Intake.pieces c.take_chunk.new.link) c.in_ok-take_chunk.field-0 c.if-branch.false (omega (arith, c.loop.invariant.4, c.loop.body.ok.0)) c.loop.invariant.3 c.in_ok-take_chunk.ensures.came
