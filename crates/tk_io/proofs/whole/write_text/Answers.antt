use Rattle.std.proofs.Common.{ℕ, ◌-◌, List, length, drop, subst, arith, ◌∙◌}
use Rattle.std.proofs.lemmas.Result.{err_from_is_err_and}
use Rattle.std.proofs.lemmas.List.{length-take, length-drop, take_all}
use Rattle.std.specs.Io.KnownBytes.{Appends}
use Rattle.tk_io.proofs.Writing.{took_more, took_front}
use Rattle.tk_io.proofs.whole.write_text.Goals as goal

pub returns-in_err-done-clause-front : goal.returns-in_err-done-clause-front
returns-in_err-done-clause-front g c =
    let p = err_from_is_err_and c.from_residual.result c.from_residual.ensures.1 in
    rw (p.1) (took_front _ _ _ _ _ c.loop-done.invariant.2 c.in_err-done.ensures.taken)

pub loop-done-preserved : goal.loop-done-preserved
loop-done-preserved g c = (
  omega (arith, c.in_ok-done.ensures.bound, length-take (length c.args.text.now - c.loop-done.done) (drop c.loop-done.done c.args.text.now), length-drop c.loop-done.done c.args.text.now),
  c.in_ok-done.ensures.cause.stays ∙ c.loop-done.invariant.1,
  took_more _ _ _ c.args.text.now c.loop-done.done c.in_ok-done.field-0 c.loop-done.invariant.2 c.in_ok-done.ensures.taken,
  c.in_ok-done.ensures.apart ∙ c.loop-done.invariant.3,
)

pub returns-clause-whole : goal.returns-clause-whole
returns-clause-whole g c =
    subst (λ (front : List ℕ). Appends (g.K.Sink.held c.args.out.now) (g.K.Sink.held c.loop-done.out) front) (take_all c.loop-done.done c.args.text.now (omega arith)) c.loop-done.invariant.2
