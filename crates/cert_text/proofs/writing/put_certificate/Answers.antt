use Rattle.std.proofs.Common.{[], ◌∷◌, ◌++◌, map, codes, sym, ap, ◌∙◌}
use Rattle.topk_base.specs.Lines.{unlines}
use Rattle.topk_base.proofs.LineLaws.{unlines-append}
use Rattle.tk_io.proofs.Putting.{puts_as, puts_then}
use Rattle.query_text.specs.Query.{printed}
use Rattle.cert_text.proofs.Factors.{factor_again}
use Rattle.cert_text.specs.Certificate.{number_line, query_line, count_line, version_lines, answer_line, guarantee_lines, guaranteed, access_line, access_lines}
use Rattle.cert_text.specs.Outcome.{figures_line, factor_for, certificate_of}
use Rattle.cert_text.proofs.writing.put_certificate.Goals as goal

pub returns : goal.returns
returns g c =
    let query = c.args.query.now in
    let answer = c.args.answer.now in
    let items = map answer_line answer.items in
    let log = answer.transcript in
    let accesses = map (access_line query.names) log.accesses in
    let rest = figures_line query log ∷ access_lines query.names log.accesses in
    let factor = guarantee_lines (guaranteed (certificate_of c.args.line query c.args.count c.args.versions.now answer)) in
    let ending = factor ++ rest in
    let answered = items ++ ending in
    let versions = version_lines query.names c.args.versions.now in
    let counted = count_line c.args.count ∷ (versions ++ answered) in
    let same = ap (λ o. unlines (guarantee_lines o)) (factor_again (factor_for query answer) ∙ sym c.guarantee_for.ensures) in
    puts_then _ _ _ (number_line c.args.line ++ 10 ∷ []) (unlines (query_line query ∷ counted)) c.put_line.ensures
    (puts_then _ _ _ (query_line query ++ 10 ∷ []) (unlines counted)
    (puts_then _ _ _ (codes "query ") (printed query ++ 10 ∷ []) c.put.ensures.puts
    (puts_then _ _ _ (printed query) (10 ∷ []) c.put_query.ensures c.put-2.ensures.puts))
    (puts_then _ _ _ (count_line c.args.count ++ 10 ∷ []) (unlines (versions ++ answered)) (rw c.from.ensures at c.put_line-2.ensures)
    (puts_as _ _ _ _ (unlines-append versions answered)
    (puts_then _ _ _ (unlines versions) (unlines answered) c.put_versions.ensures
    (puts_as _ _ _ _ (unlines-append items ending)
    (puts_then _ _ _ (unlines items) (unlines ending) c.put_items.ensures
    (puts_as _ _ _ _ (unlines-append factor rest)
    (puts_then _ _ _ (unlines factor) (unlines rest) (puts_as _ _ _ _ same c.put_guarantee.ensures)
    (puts_then _ _ _ (figures_line query log ++ 10 ∷ []) (unlines (access_lines query.names log.accesses)) c.put_figures.ensures
    (puts_as _ _ _ _ (unlines-append accesses (codes "end" ∷ []))
    (puts_then _ _ _ (unlines accesses) (codes "end\n") c.put_accesses.ensures c.put-3.ensures.puts)))))))))))
