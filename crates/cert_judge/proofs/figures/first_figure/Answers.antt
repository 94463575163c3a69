use Rattle.std.proofs.Common.{◌≡◌, ◌∙◌, ◌+◌, ℕ, map, length, refl, sym, ap, ap₂, subst, arith}
use Rattle.std.proofs.lemmas.Bool.{true≢false}
use Rattle.std.proofs.lemmas.List.{length-map}
use Rattle.monotone_fn.specs.Value.{value}
use Rattle.cert_text.specs.Certificate.{guaranteed}
use Rattle.cert_judge.specs.Transcripts.{log_of}
use Rattle.cert_judge.specs.Figures.{item_figures, guarantee_figures, refigured, IsFirstDifference}
use Rattle.cert_judge.proofs.Comparing.{given_figures, given_length, figures_at, among_items, at_guarantee, at_stop, as_given, factors_there}
use Rattle.cert_judge.proofs.figures.first_figure.Goals as goal

pub returns-in-Some : goal.returns-in-Some
returns-in-Some c =
    let cert = c.args.certificate.now in
    let V = value cert.query.expr in
    let log = log_of cert in
    among_items cert (map item_figures cert.items) (given_figures V log.lists log.accesses cert.items) _ _ c.in-Some.place _ refl refl (given_length V log.lists log.accesses cert.items)
    (subst (λ l. IsFirstDifference (map item_figures cert.items) (given_figures V l.lists l.accesses cert.items) c.in-Some.place) c.requires.made c.in-Some.ensures)
    (figures_at cert c.in-Some.place c.figures_from-first.result _ c.figures_from-first.ensures.line c.from.ensures)

pub returns-then-not-guarantees_so : goal.returns-then-not-guarantees_so
returns-then-not-guarantees_so c =
    let cert = c.args.certificate.now in
    let V = value cert.query.expr in
    let log = log_of cert in
    at_guarantee cert (map item_figures cert.items) (given_figures V log.lists log.accesses cert.items) _ _ (guaranteed cert) (guaranteed (refigured cert)) c.len.result _ refl refl
    (factors_there cert c.requires.certificate) (λ e. true≢false (sym (c.guarantees_so.ensures.1 e) ∙ c.if-not-guarantees_so.true))
    (subst (λ l. map item_figures cert.items ≡ given_figures V l.lists l.accesses cert.items) c.requires.made c.in_default.ensures)
    (c.len.ensures ∙ sym (length-map cert.items item_figures)) (figures_at cert c.len.result c.figures_from-first.result _ c.figures_from-first.ensures.line c.from-2.ensures)

pub returns-then-stops_so : goal.returns-then-stops_so
returns-then-stops_so c =
    let cert = c.args.certificate.now in
    let V = value cert.query.expr in
    let log = log_of cert in
    as_given cert (map item_figures cert.items) (given_figures V log.lists log.accesses cert.items) (guarantee_figures (guaranteed cert)) (guarantee_figures (guaranteed (refigured cert))) refl refl
    (subst (λ l. map item_figures cert.items ≡ given_figures V l.lists l.accesses cert.items) c.requires.made c.in_default.ensures)
    (ap guarantee_figures (c.guarantees_so.ensures.0 c.if-not-guarantees_so.false)) (c.stops_so.ensures.0 c.if-stops_so.true)

pub returns : goal.returns
returns c =
    let cert = c.args.certificate.now in
    let V = value cert.query.expr in
    let log = log_of cert in
    let items : c.len.result ≡ length (map item_figures cert.items) = c.len.ensures ∙ sym (length-map cert.items item_figures) in
    at_stop cert (map item_figures cert.items) (given_figures V log.lists log.accesses cert.items) (guarantee_figures (guaranteed cert)) (guarantee_figures (guaranteed (refigured cert)))
    (c.len.result + c.lines_of_guarantee.result) _ refl refl
    (subst (λ l. map item_figures cert.items ≡ given_figures V l.lists l.accesses cert.items) c.requires.made c.in_default.ensures)
    (ap guarantee_figures (c.guarantees_so.ensures.0 c.if-not-guarantees_so.false))
    (λ e. true≢false (sym (c.stops_so.ensures.1 e) ∙ c.if-stops_so.false)) (ap₂ (λ (a b : ℕ). a + b) items c.lines_of_guarantee.ensures.lines)
    (omega (arith, c.figures_from-first.ensures.line, c.from-2.ensures))
