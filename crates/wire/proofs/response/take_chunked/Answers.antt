use Rattle.std.proofs.lemmas.Result.{err_from_is_err_and}
use Rattle.wire.specs.LinkTold.{told}
use Rattle.wire.proofs.StepLaws.{chunked_cut, trailers_cut, chunked_taken}
use Rattle.wire.proofs.WholeLaws.{chunks_only, trailers_then}
use Rattle.wire.proofs.response.take_chunked.Goals as goal

pub returns-in_err-take_chunks-clause-answers : goal.returns-in_err-take_chunks-clause-answers
returns-in_err-take_chunks-clause-answers g c =
    let p = err_from_is_err_and c.from_residual.result c.from_residual.ensures.1 in
    rw (p.1, p.2) (chunked_cut (told c.args.feed.now (g.R.Intake.left c.args.link.now)) (told c.take_chunks.new.feed (g.R.Intake.left c.take_chunks.new.link)) c.take_chunks.new.body.items _ c.in_err-take_chunks.ensures.takes)

pub returns-in_err-take_part-clause-answers : goal.returns-in_err-take_part-clause-answers
returns-in_err-take_part-clause-answers g c =
    let p = err_from_is_err_and c.from_residual-in_err-take_part.result c.from_residual-in_err-take_part.ensures.1 in
    rw (p.1, p.2) (trailers_cut (told c.args.feed.now (g.R.Intake.left c.args.link.now)) (told c.take_chunks.new.feed (g.R.Intake.left c.take_chunks.new.link)) (told c.take_part.new.feed (g.R.Intake.left c.take_part.new.link)) c.take_chunks.new.body.items _
    c.in_ok-take_chunks.ensures.takes c.in_err-take_part.ensures.takes)

pub returns-clause-answers : goal.returns-clause-answers
returns-clause-answers g c =
    chunked_taken (told c.args.feed.now (g.R.Intake.left c.args.link.now)) (told c.take_chunks.new.feed (g.R.Intake.left c.take_chunks.new.link)) (told c.take_part.new.feed (g.R.Intake.left c.take_part.new.link)) c.take_chunks.new.body.items
    c.in_ok-take_chunks.ensures.takes c.in_ok-take_part.ensures.takes

pub returns-in_err-take_chunks-clause-sparing : goal.returns-in_err-take_chunks-clause-sparing
returns-in_err-take_chunks-clause-sparing g c =
    chunks_only c.args.feed.now (g.R.Intake.pieces c.args.link.now) (g.R.Intake.pieces c.take_chunks.new.link) c.in_err-take_chunks.ensures.sparing

pub returns-in_err-take_part-clause-sparing : goal.returns-in_err-take_part-clause-sparing
returns-in_err-take_part-clause-sparing g c =
    trailers_then c.args.feed.now c.take_chunks.new.feed c.take_chunks.new.body.items (g.R.Intake.pieces c.args.link.now) (g.R.Intake.pieces c.take_chunks.new.link) (g.R.Intake.pieces c.take_part.new.link) c.in_ok-take_chunks.ensures.sparing c.in_ok-take_chunks.ensures.came c.in_err-take_part.ensures.sparing

pub returns-clause-sparing : goal.returns-clause-sparing
returns-clause-sparing g c =
    trailers_then c.args.feed.now c.take_chunks.new.feed c.take_chunks.new.body.items (g.R.Intake.pieces c.args.link.now) (g.R.Intake.pieces c.take_chunks.new.link) (g.R.Intake.pieces c.take_part.new.link) c.in_ok-take_chunks.ensures.sparing c.in_ok-take_chunks.ensures.came c.in_ok-take_part.ensures.sparing
