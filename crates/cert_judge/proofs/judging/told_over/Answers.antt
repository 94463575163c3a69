use Rattle.std.proofs.Common.{◌∙◌, Ok, Err, subst, sym, ap, length, arith}
use Rattle.monotone_fn.specs.Value.{value}
use Rattle.cert_text.specs.Certificate.{guaranteed}
use Rattle.cert_judge.specs.declared.verdict.JudgeFault.TheVariants.{UnseenAnswer}
use Rattle.cert_judge.specs.Judging.{JudgesBy, IsJudged}
use Rattle.cert_judge.proofs.Telling.{judged_as}
use Rattle.cert_judge.proofs.judging.told_over.Goals as goal

pub verdict_on-requires-clause-size : goal.verdict_on-requires-clause-size
verdict_on-requires-clause-size c = omega (arith, ap length c.deref.ensures.value, c.in-Ok.ensures.few)

pub told_fair-requires-clause-judged : goal.told_fair-requires-clause-judged
told_fair-requires-clause-judged c =
    judged_as c.args.certificate.now c.args.transcript.now c.deref.result.now (Ok c.in-Ok-verdict_on.verdict) c.requires.made (c.deref.ensures.value ∙ c.in-Ok.ensures.objects) c.requires.agrees c.in-Ok-verdict_on.ensures

pub returns-in-Err-UnseenAnswer : goal.returns-in-Err-UnseenAnswer
returns-in-Err-UnseenAnswer c =
    let cert = c.args.certificate.now in
    subst (λ o. IsJudged cert (Err (UnseenAnswer o))) (sym c.in-Err-UnseenAnswer.object-is)
    (judged_as cert c.args.transcript.now c.deref.result.now (Err (UnseenAnswer c.in-Err-UnseenAnswer.object)) c.requires.made (c.deref.ensures.value ∙ c.in-Ok.ensures.objects) c.requires.agrees
    (subst (λ f. JudgesBy (guaranteed cert) (value cert.query.expr) cert.query.k c.args.transcript.now c.deref.result.now (Err f)) c.in-Err-UnseenAnswer.field-0-is c.in-Err-UnseenAnswer.ensures))
