use Rattle.std.proofs.Common.{ℕ, ◌+◌, Ok, refl, sym}
use Rattle.std.specs.Global.{Vec}
use Rattle.std.proofs.lemmas.Result.{err_from_is_err_and}
use Rattle.topk_base.specs.Lines.{lines}
use Rattle.cert_text.specs.declared.reader.Results.{Results}
use Rattle.cert_text.specs.Judging.{SpellsVersioned, SpellsCounted, found_of, counted_of}
use Rattle.cert_text.proofs.JudgingLaws.{finds_first, finds_fault, judged_here, judged_end, carries_line}
use Rattle.cert_text.proofs.SpellLaws.{steps_count, counted_some, counted_end, counted_here}
use Rattle.cert_text.proofs.reader.read_counted.Goals as goal

pub returns-in_default : goal.returns-in_default
returns-in_default c =
    let names = c.args.names.now in
    let wanted = c.args.wanted in
    finds_first (SpellsCounted wanted names) (lines c.args.text.now) c.args.first (judged_end (SpellsCounted wanted names) c.args.text.now c.in_default.ensures (counted_some wanted names) (counted_end wanted names))

pub returns-in_default-count_of : goal.returns-in_default-count_of
returns-in_default-count_of c =
    let names = c.args.names.now in
    let wanted = c.args.wanted in
    finds_first (SpellsCounted wanted names) (lines c.args.text.now) c.args.first
    (judged_here (SpellsCounted wanted names) c.in-Some.line.now (lines c.in-Some.rest.now) (lines c.args.text.now) c.in-Some.ensures.0 (counted_some wanted names) (counted_here wanted names c.in-Some.line.now (sym c.in_default-count_of.ensures)))

pub returns-in_err-versions : goal.returns-in_err-versions
returns-in_err-versions c =
    let names = c.args.names.now in
    let wanted = c.args.wanted in
    let count = c.in-Some-count_of.count in
    let p = err_from_is_err_and c.from_residual.result c.from_residual.ensures.1 in
    rw (p.1, p.2) (finds_fault (SpellsVersioned wanted names names) (SpellsCounted wanted names) (lines c.in-Some.rest.now) (lines c.args.text.now) (λ versioned. (count, versioned.0, versioned.1)) 1 c.args.first (c.args.first + 1)
    (λ (versioned : Vec ℕ × Results). (versioned.0.items, found_of versioned.1)) counted_of c.in_err-versions.field-0.0
    (carries_line (SpellsVersioned wanted names names) (SpellsCounted wanted names) c.in-Some.line.now (lines c.in-Some.rest.now) (lines c.args.text.now) (λ versioned. (count, versioned.0, versioned.1)) c.in-Some.ensures.0 (steps_count wanted names c.in-Some.line.now count (sym c.in-Some-count_of.ensures)))
    refl c.in_err-versions.ensures)

pub returns : goal.returns
returns c =
    let names = c.args.names.now in
    let wanted = c.args.wanted in
    let count = c.in-Some-count_of.count in
    carries_line (SpellsVersioned wanted names names) (SpellsCounted wanted names) c.in-Some.line.now (lines c.in-Some.rest.now) (lines c.args.text.now) (λ versioned. (count, versioned.0, versioned.1)) c.in-Some.ensures.0 (steps_count wanted names c.in-Some.line.now count (sym c.in-Some-count_of.ensures))
    (Ok (c.in_ok-versions.versions.items, found_of c.in_ok-versions.results)) c.in_ok-versions.ensures
