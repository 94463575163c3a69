use Rattle.std.proofs.Common.{Ok, subst}
use Rattle.cert_judge.specs.Judging.{IsJudged}
use Rattle.cert_judge.proofs.Telling.{seen_inside}
use Rattle.cert_judge.proofs.judging.told_fair.Goals as goal

pub counter_of-requires-clause-seen : goal.counter_of-requires-clause-seen
counter_of-requires-clause-seen c =
    seen_inside c.args.certificate.now c.in-Beaten.inside c.in-Beaten.outside c.in-Beaten.low c.in-Beaten.high
    (subst (λ v. IsJudged c.args.certificate.now (Ok v)) c.in-Beaten.is c.requires.judged)
