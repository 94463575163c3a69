use Rattle.std.proofs.Common.{ℕ, List, subst}
use Rattle.std.proofs.lemmas.Result.{err_from_is_err_and}
use Rattle.std.specs.Io.KnownBytes.{Appends}
use Rattle.tk_io.specs.Whole.{TookFront}
use Rattle.tk_io.proofs.pieces.send.Goals as goal

pub returns-in_err-write_text-clause-front : goal.returns-in_err-write_text-clause-front
returns-in_err-write_text-clause-front g c =
    let p = err_from_is_err_and c.from_residual.result c.from_residual.ensures.1 in
    rw (p.1) (subst (λ (text : List ℕ). TookFront (g.K.Sink.held c.args.out.now) (g.K.Sink.held c.write_text.new.out) text) c.as_slice.ensures.value c.in_err-write_text.ensures.front)

pub returns-clause-whole : goal.returns-clause-whole
returns-clause-whole g c =
    subst (λ (text : List ℕ). Appends (g.K.Sink.held c.args.out.now) (g.K.Sink.held c.write_text.new.out) text) c.as_slice.ensures.value c.in_ok-write_text.ensures.whole
