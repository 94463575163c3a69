use Rattle.std.proofs.Common.{sym, subst, arith}
use Rattle.topk_base.specs.Lines.{lines}
use Rattle.cert_judge.specs.Judging.{Tells}
use Rattle.cert_judge.specs.declared.judgement.Judgement.TheVariants.{BadLine}
use Rattle.cert_judge.proofs.Telling.{few_accesses, told_result, told_no_certificate}
use Rattle.cert_judge.proofs.judging.judge_text.Goals as goal

pub told_of-told-requires-clause-few : goal.told_of-told-requires-clause-few
told_of-told-requires-clause-few c = omega (arith, few_accesses c.args.bytes.now c.in-Ok.certificate c.in-Ok.ensures.found, c.requires)

pub returns-in-Ok : goal.returns-in-Ok
returns-in-Ok c = told_result (lines c.args.bytes.now) c.in-Ok.certificate c.told_of-told.result c.in-Ok.ensures.found (λ d s. sym (c.in-Ok.ensures.reads d s)) c.told_of-told.ensures

pub returns-in-Err-BadLine : goal.returns-in-Err-BadLine
returns-in-Err-BadLine c =
    subst (λ line. Tells (lines c.args.bytes.now) (BadLine line)) (sym c.in-Err-BadLine.line-is)
    (told_no_certificate (lines c.args.bytes.now) _ c.in-Err-BadLine.line c.in-Err-BadLine.field-0-is c.in-Err-BadLine.ensures.reads c.in-Err-BadLine.ensures.fault)
