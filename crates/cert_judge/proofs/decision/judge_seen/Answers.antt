use Rattle.std.proofs.Common.{Contains, All, Ok, subst, sym}
use Rattle.monotone_fn.specs.Value.{value}
use Rattle.monotone_fn.proofs.Laws.{value-monotone}
use Rattle.topk_theory.specs.Transcript.{seen_objects}
use Rattle.topk_theory.specs.Bounds.{high}
use Rattle.cert_judge.specs.Extremes.{FindsGreatest}
use Rattle.algorithm_theory.specs.Within.{Factor}
use Rattle.cert_judge.specs.Deciding.{IsOutside}
use Rattle.cert_judge.specs.JudgingWithin.{JudgesWithin}
use Rattle.cert_judge.proofs.TellingTables.{tells}
use Rattle.cert_judge.proofs.decision.judge_seen.Goals as goal

pub greatest_high-outside-requires-clause-seen : goal.greatest_high-outside-requires-clause-seen
greatest_high-outside-requires-clause-seen c = subst (All (Contains (seen_objects c.args.transcript.now.accesses))) (sym c.requires.kept) c.in_default.ensures

pub returns : goal.returns
returns c =
    let V = value c.args.expr.now in
    let log = c.args.transcript.now in
    let Y = c.args.answer.now in
    let factor : Factor = record { p = c.args.p; q = c.args.q } in
    subst (λ v. JudgesWithin V c.args.k factor log Y (Ok v)) (sym c.verdict_within.ensures)
    (tells V c.args.k factor log Y c.least_low-inside.result c.greatest_high-outside.result
    (record {
      monotone = value-monotone c.args.expr.now;
      lists = c.greatest_high-outside.ensures.limits.some_lists;
      consistent = c.requires.agrees;
      fair = record { tame = c.requires.tame; size = c.requires.sized; seen = c.in_default.ensures };
    })
    c.least_low-inside.ensures
    (subst (λ ys. FindsGreatest (λ object. high V log.lists log.accesses object) (IsOutside log ys) c.greatest_high-outside.result) c.requires.kept c.greatest_high-outside.ensures.found))
