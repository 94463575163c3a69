use Rattle.std.proofs.Common.{ℕ, take, subst, arith}
use Rattle.std.proofs.lemmas.List.{take_all}
use Rattle.monotone_fn.specs.Value.{value}
use Rattle.topk_theory.specs.Transcript.{seen_objects}
use Rattle.topk_theory.specs.Bounds.{high}
use Rattle.topk_theory.proofs.AgreementLists.{front_next}
use Rattle.cert_judge.specs.Extremes.{FindsGreatest}
use Rattle.cert_judge.specs.Outside.{IsOneOutside}
use Rattle.cert_judge.proofs.Extreme.{greatest_of_none, greatest_listed}
use Rattle.cert_judge.proofs.extremes.greatest_seen.Goals as goal

pub loop-place-init : goal.loop-place-init
loop-place-init c = greatest_of_none (λ object. high (value c.args.expr.now) c.args.transcript.now.lists c.args.transcript.now.accesses object) c.args.answer.now

pub loop-place-preserved : goal.loop-place-preserved
loop-place-preserved c =
    let f : ℕ → ℕ = λ object. high (value c.args.expr.now) c.args.transcript.now.lists c.args.transcript.now.accesses object in
    let S = seen_objects c.args.transcript.now.accesses in
    let Y = c.args.answer.now in
    let object = c.object_at-object.result in
    subst (λ xs. FindsGreatest f (IsOneOutside xs Y) c.greater_outside-best.result) (front_next S c.loop-place.place object c.object_at-object.ensures)
    (greatest_listed f (take c.loop-place.place S) Y c.loop-place.best c.greater_outside-best.result object c.loop-place.invariant c.greater_outside-best.ensures)

pub returns : goal.returns
returns c =
    subst (λ xs. FindsGreatest (λ object. high (value c.args.expr.now) c.args.transcript.now.lists c.args.transcript.now.accesses object) (IsOneOutside xs c.args.answer.now) c.loop-place.best)
    (take_all c.loop-place.place (seen_objects c.args.transcript.now.accesses) (omega (arith, c.seen-place-end.ensures))) c.loop-place.invariant
