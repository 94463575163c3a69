use Rattle.std.proofs.Common.{ℕ, subst, sym}
use Rattle.monotone_fn.specs.Value.{value}
use Rattle.topk_theory.specs.Bounds.{high}
use Rattle.cert_judge.specs.Extremes.{FindsGreatest}
use Rattle.cert_judge.specs.Deciding.{IsOutside}
use Rattle.cert_judge.proofs.Unseen.{same_high, all_seen_outside, with_least_unseen}
use Rattle.cert_judge.proofs.extremes.greatest_high.Goals as goal

pub returns-in_default-clause-found : goal.returns-in_default-clause-found
returns-in_default-clause-found c =
    all_seen_outside (λ object. high (value c.args.expr.now) c.args.transcript.now.lists c.args.transcript.now.accesses object) c.args.transcript.now c.args.answer.now
    c.greatest_seen-best.result c.requires.tame c.greatest_seen-best.ensures c.in_default.ensures.found

pub returns-clause-found : goal.returns-clause-found
returns-clause-found c =
    let V = value c.args.expr.now in
    let log = c.args.transcript.now in
    let u = c.in-Some.object in
    let least = c.in-Some.ensures.found in
    let f : ℕ → ℕ = λ object. high V log.lists log.accesses object in
    subst (FindsGreatest f (IsOutside log c.args.answer.now)) (sym c.greater_high.ensures)
    (with_least_unseen f log c.args.answer.now c.greatest_seen-best.result u c.requires.tame c.requires.seen least
    (λ o n. same_high V log.lists log.accesses o u c.requires.tame n least.unseen) c.greatest_seen-best.ensures)
