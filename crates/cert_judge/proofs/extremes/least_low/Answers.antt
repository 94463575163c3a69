use Rattle.std.proofs.Common.{ℕ, get_or, take, Contains, Some, subst, subst₂, sym, arith}
use Rattle.std.proofs.lemmas.List.{take_more, take_all}
use Rattle.monotone_fn.specs.Value.{value}
use Rattle.topk_theory.specs.Bounds.{low}
use Rattle.cert_judge.specs.Extremes.{FindsLeast}
use Rattle.cert_judge.proofs.Extreme.{least_of_none, least_listed}
use Rattle.cert_judge.proofs.extremes.least_low.Goals as goal

pub loop-member-init : goal.loop-member-init
loop-member-init c = least_of_none (λ object. low (value c.args.expr.now) c.args.transcript.now.lists c.args.transcript.now.accesses object)

pub loop-member-preserved : goal.loop-member-preserved
loop-member-preserved c =
    let f : ℕ → ℕ = λ object. low (value c.args.expr.now) c.args.transcript.now.lists c.args.transcript.now.accesses object in
    let Y = c.args.answer.now in
    let i = c.loop-member.member-index in
    subst₂ (λ xs b. FindsLeast f (Contains xs) (Some b)) (sym (take_more Y i 0 c.loop-member-test.true)) (sym c.lesser.ensures)
    (least_listed f (take i Y) c.loop-member.best (record { object = get_or Y i 0; value = c.low-value.result }) c.loop-member.invariant c.low-value.ensures)

pub returns : goal.returns
returns c =
    subst (λ xs. FindsLeast (λ object. low (value c.args.expr.now) c.args.transcript.now.lists c.args.transcript.now.accesses object) (Contains xs) c.loop-member.best)
    (take_all c.loop-member.member-index c.args.answer.now (omega arith)) c.loop-member.invariant
