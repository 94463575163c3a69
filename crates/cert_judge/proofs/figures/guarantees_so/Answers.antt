use Rattle.std.proofs.Common.{◌∙◌, ap}
use Rattle.monotone_fn.specs.Value.{value}
use Rattle.topk_theory.specs.Threshold.{item_objects}
use Rattle.access_log.specs.Log.{Log}
use Rattle.cert_text.specs.Guarantee.{guarantee_by}
use Rattle.cert_judge.proofs.Comparing.{factors_same}
use Rattle.cert_judge.proofs.figures.guarantees_so.Goals as goal

pub returns : goal.returns
returns c =
    let cert = c.args.certificate.now in
    let log = c.args.transcript.now in
    let V = value cert.query.expr in
    let is = c.guarantee-given.ensures
    ∙ ap (λ items. guarantee_by cert.query.algorithm V log.lists log.accesses (item_objects items)) (c.as_slice-items.ensures.value ∙ c.iter.ensures.rest)
    ∙ ap (λ (l : Log). guarantee_by cert.query.algorithm V l.lists l.accesses (item_objects cert.items)) c.requires.made in
    let both = factors_same cert c.guarantee-given.result is in
    (λ same. both.0 (c.is_same.ensures.0 same), λ same. c.is_same.ensures.1 (both.1 same))
