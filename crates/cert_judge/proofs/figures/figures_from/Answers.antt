use Rattle.std.proofs.Common.{◌+◌, ap, ◌∙◌, length, filter, arith}
use Rattle.cert_judge.specs.Figures.{has_line}
use Rattle.cert_judge.proofs.Comparing.{lines_counted, lines_small}
use Rattle.cert_judge.proofs.figures.figures_from.Goals as goal

pub returns-clause-line : goal.returns-clause-line
returns-clause-line c =
    let cert = c.args.certificate.now in
    let counted = ap (λ versions. length (filter has_line versions)) c.as_slice.ensures in
    ap (λ n. 4 + n) (c.lines_of_versions.ensures ∙ (counted ∙ lines_counted cert.query.names cert.versions c.requires.versioned))

pub returns-clause-few : goal.returns-clause-few
returns-clause-few c =
    let counted = ap (λ versions. length (filter has_line versions)) c.as_slice.ensures in
    omega (arith, c.lines_of_versions.ensures, counted, lines_small c.args.certificate.now c.requires)

pub overflow_add-result : goal.overflow_add-result
overflow_add-result c =
    let counted = ap (λ versions. length (filter has_line versions)) c.as_slice.ensures in
    omega (arith, c.lines_of_versions.ensures, counted, lines_small c.args.certificate.now c.requires)
