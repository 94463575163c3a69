use Rattle.std.proofs.Common.{refl, arith}
use Rattle.std.proofs.lemmas.Result.{err_from_is_err_and}
use Rattle.wire.specs.LinkTold.{told}
use Rattle.wire.proofs.StepLaws.{chunk_cut, chunk_open, chunk_taken}
use Rattle.wire.proofs.WholeLaws.{line_only, last_taken, content_then, content_taken, end_then, all_taken}
use Rattle.wire.proofs.chunks.take_chunk.Goals as goal

pub returns-in_err-take_bytes-clause-takes : goal.returns-in_err-take_bytes-clause-takes
returns-in_err-take_bytes-clause-takes g c =
    let p = err_from_is_err_and c.from_residual-in_err-take_bytes.result c.from_residual-in_err-take_bytes.ensures.1 in
    rw (p.1, p.2) (chunk_cut (told c.args.feed.now (g.R.Intake.left c.args.link.now)) (told c.take_part.new.feed (g.R.Intake.left c.take_part.new.link)) (told c.take_bytes.new.feed (g.R.Intake.left c.take_bytes.new.link))
    c.in_ok-size.size c.in_ok-size.size c.args.body.now.items c.args.body.now.items c.take_bytes.new.body.items _
    c.in_ok-size.ensures.takes c.if-size-eq0.false refl c.in_err-take_bytes.ensures.takes)

pub returns-in_err-take_line_end-clause-takes : goal.returns-in_err-take_line_end-clause-takes
returns-in_err-take_line_end-clause-takes g c =
    let p = err_from_is_err_and c.from_residual-in_err-take_line_end.result c.from_residual-in_err-take_line_end.ensures.1 in
    rw (p.1, p.2) (chunk_open (told c.args.feed.now (g.R.Intake.left c.args.link.now)) (told c.take_part.new.feed (g.R.Intake.left c.take_part.new.link)) (told c.take_bytes.new.feed (g.R.Intake.left c.take_bytes.new.link)) (told c.take_line_end.new.feed (g.R.Intake.left c.take_line_end.new.link))
    c.in_ok-size.size c.in_ok-size.size c.args.body.now.items c.args.body.now.items c.take_bytes.new.body.items _
    c.in_ok-size.ensures.takes c.if-size-eq0.false refl c.in_ok-take_bytes.ensures.takes c.in_err-take_line_end.ensures.takes)

pub returns-clause-takes : goal.returns-clause-takes
returns-clause-takes g c =
    chunk_taken (told c.args.feed.now (g.R.Intake.left c.args.link.now)) (told c.take_part.new.feed (g.R.Intake.left c.take_part.new.link)) (told c.take_bytes.new.feed (g.R.Intake.left c.take_bytes.new.link)) (told c.take_line_end.new.feed (g.R.Intake.left c.take_line_end.new.link))
    c.in_ok-size.size c.in_ok-size.size c.args.body.now.items c.take_bytes.new.body.items
    c.in_ok-size.ensures.takes c.if-size-eq0.false refl (omega (arith, c.if-size-len.false, c.len.ensures, c.requires, c.args.body.now.ok.0))
    c.in_ok-take_bytes.ensures.takes c.in_ok-take_line_end.ensures.takes

pub returns-in_err-size-clause-sparing : goal.returns-in_err-size-clause-sparing
returns-in_err-size-clause-sparing g c =
    line_only c.args.feed.now (g.R.Intake.pieces c.args.link.now) (g.R.Intake.pieces c.take_part.new.link) c.in_err-size.ensures.sparing

pub returns-then-size-eq0-clause-sparing : goal.returns-then-size-eq0-clause-sparing
returns-then-size-eq0-clause-sparing g c =
    line_only c.args.feed.now (g.R.Intake.pieces c.args.link.now) (g.R.Intake.pieces c.take_part.new.link) c.in_ok-size.ensures.sparing

pub returns-then-size-eq0-clause-came : goal.returns-then-size-eq0-clause-came
returns-then-size-eq0-clause-came g c =
    last_taken c.in_ok-size.size c.args.feed.now c.take_part.new.feed c.args.body.now.items c.args.body.now.items (g.R.Intake.pieces c.args.link.now) (g.R.Intake.pieces c.take_part.new.link) c.if-size-eq0.true refl c.in_ok-size.ensures.came

pub returns-then-size-len-clause-sparing : goal.returns-then-size-len-clause-sparing
returns-then-size-len-clause-sparing g c =
    line_only c.args.feed.now (g.R.Intake.pieces c.args.link.now) (g.R.Intake.pieces c.take_part.new.link) c.in_ok-size.ensures.sparing

pub returns-in_err-take_bytes-clause-sparing : goal.returns-in_err-take_bytes-clause-sparing
returns-in_err-take_bytes-clause-sparing g c =
    content_then c.in_ok-size.size c.args.feed.now c.take_part.new.feed (g.R.Intake.pieces c.args.link.now) (g.R.Intake.pieces c.take_part.new.link) (g.R.Intake.pieces c.take_bytes.new.link) c.if-size-eq0.false c.in_ok-size.ensures.sparing c.in_ok-size.ensures.came c.in_err-take_bytes.ensures.sparing

pub returns-in_err-take_line_end-clause-sparing : goal.returns-in_err-take_line_end-clause-sparing
returns-in_err-take_line_end-clause-sparing g c =
    end_then c.in_ok-size.size c.args.feed.now c.take_bytes.new.feed c.args.body.now.items c.take_bytes.new.body.items (g.R.Intake.pieces c.args.link.now) (g.R.Intake.pieces c.take_bytes.new.link) (g.R.Intake.pieces c.take_line_end.new.link) c.if-size-eq0.false
    (content_then c.in_ok-size.size c.args.feed.now c.take_part.new.feed (g.R.Intake.pieces c.args.link.now) (g.R.Intake.pieces c.take_part.new.link) (g.R.Intake.pieces c.take_bytes.new.link) c.if-size-eq0.false c.in_ok-size.ensures.sparing c.in_ok-size.ensures.came c.in_ok-take_bytes.ensures.sparing)
    (content_taken c.in_ok-size.size c.args.feed.now c.take_part.new.feed c.take_bytes.new.feed c.args.body.now.items c.take_bytes.new.body.items (g.R.Intake.pieces c.args.link.now) (g.R.Intake.pieces c.take_part.new.link) (g.R.Intake.pieces c.take_bytes.new.link) c.in_ok-size.ensures.came c.in_ok-take_bytes.ensures.came)
    c.in_err-take_line_end.ensures.sparing

pub returns-clause-sparing : goal.returns-clause-sparing
returns-clause-sparing g c =
    end_then c.in_ok-size.size c.args.feed.now c.take_bytes.new.feed c.args.body.now.items c.take_bytes.new.body.items (g.R.Intake.pieces c.args.link.now) (g.R.Intake.pieces c.take_bytes.new.link) (g.R.Intake.pieces c.take_line_end.new.link) c.if-size-eq0.false
    (content_then c.in_ok-size.size c.args.feed.now c.take_part.new.feed (g.R.Intake.pieces c.args.link.now) (g.R.Intake.pieces c.take_part.new.link) (g.R.Intake.pieces c.take_bytes.new.link) c.if-size-eq0.false c.in_ok-size.ensures.sparing c.in_ok-size.ensures.came c.in_ok-take_bytes.ensures.sparing)
    (content_taken c.in_ok-size.size c.args.feed.now c.take_part.new.feed c.take_bytes.new.feed c.args.body.now.items c.take_bytes.new.body.items (g.R.Intake.pieces c.args.link.now) (g.R.Intake.pieces c.take_part.new.link) (g.R.Intake.pieces c.take_bytes.new.link) c.in_ok-size.ensures.came c.in_ok-take_bytes.ensures.came)
    c.in_ok-take_line_end.ensures.sparing

pub returns-clause-came : goal.returns-clause-came
returns-clause-came g c =
    all_taken c.in_ok-size.size c.args.feed.now c.take_bytes.new.feed c.take_line_end.new.feed c.args.body.now.items c.take_bytes.new.body.items (g.R.Intake.pieces c.args.link.now) (g.R.Intake.pieces c.take_bytes.new.link) (g.R.Intake.pieces c.take_line_end.new.link) c.if-size-eq0.false
    (omega (arith, c.if-size-len.false, c.len.ensures, c.requires, c.args.body.now.ok.0))
    (content_taken c.in_ok-size.size c.args.feed.now c.take_part.new.feed c.take_bytes.new.feed c.args.body.now.items c.take_bytes.new.body.items (g.R.Intake.pieces c.args.link.now) (g.R.Intake.pieces c.take_part.new.link) (g.R.Intake.pieces c.take_bytes.new.link) c.in_ok-size.ensures.came c.in_ok-take_bytes.ensures.came) c.in_ok-take_line_end.ensures.came
