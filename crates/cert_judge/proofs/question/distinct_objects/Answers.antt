use Rattle.std.proofs.Common.{◌≢◌, ℕ, AllPairs, subst, ◌∙◌, arith}
use Rattle.std.proofs.lemmas.List.{take_all}
use Rattle.cert_judge.proofs.Tame.{repeats, keeps_new}
use Rattle.cert_judge.proofs.question.distinct_objects.Goals as goal

pub returns-then-not-is_new : goal.returns-then-not-is_new
returns-then-not-is_new c =
    repeats c.args.answer.now c.loop-object.object-index c.in-Ok.is_new c.loop-object.objects c.loop-object-test.true c.loop-object.invariant.kept c.in-Ok.ensures.is_new c.if-not-is_new.true

pub loop-object-preserved : goal.loop-object-preserved
loop-object-preserved c =
    let r = keeps_new c.args.answer.now c.loop-object.object-index c.in-Ok.is_new c.loop-object.objects c.add.new.self c.loop-object-test.true c.loop-object.invariant.kept c.loop-object.invariant.distinct
    c.in-Ok.ensures.is_new c.if-not-is_new.false c.in-Ok.ensures.added in
    record { kept = r.0; distinct = r.1 }

pub returns : goal.returns
returns c =
    let whole = take_all c.loop-object.object-index c.args.answer.now (omega arith) in
    (c.loop-object.invariant.kept ∙ whole, subst (λ s. AllPairs (λ (a : ℕ) (b : ℕ). a ≢ b) s) whole c.loop-object.invariant.distinct)
