use Rattle.std.proofs.Common.{Ok, refl, sym}
use Rattle.std.proofs.lemmas.Result.{err_from_is_err_and}
use Rattle.topk_base.specs.Lines.{lines}
use Rattle.cert_text.specs.declared.certificate.Certificate.{Certificate}
use Rattle.cert_text.specs.Judging.{SpellsQueried, queried_of}
use Rattle.cert_text.specs.Reading.{Spells}
use Rattle.cert_text.proofs.JudgingLaws.{finds_first, finds_fault, judged_here, judged_end, carries_line}
use Rattle.cert_text.proofs.SpellLaws.{whole, steps_number, spells_end, spells_here}
use Rattle.cert_text.proofs.ExampleLaws.{spells_some}
use Rattle.cert_text.proofs.reading.read_lines.Goals as goal

pub returns-in_default : goal.returns-in_default
returns-in_default c =
    finds_first Spells (lines c.args.bytes.now) 1 (judged_end Spells c.args.bytes.now c.in_default.ensures spells_some spells_end)

pub returns-in_default-number_of : goal.returns-in_default-number_of
returns-in_default-number_of c =
    finds_first Spells (lines c.args.bytes.now) 1
    (judged_here Spells c.in-Some.text.now (lines c.in-Some.rest.now) (lines c.args.bytes.now) c.in-Some.ensures.0 spells_some (spells_here c.in-Some.text.now (sym c.in_default-number_of.ensures)))

pub returns-in_err-query : goal.returns-in_err-query
returns-in_err-query c =
    let n = c.in-Some-number_of.line in
    let p = err_from_is_err_and c.from_residual.result c.from_residual.ensures.1 in
    rw (p.1, p.2) (finds_fault SpellsQueried Spells (lines c.in-Some.rest.now) (lines c.args.bytes.now) (whole n) 1 1 2 queried_of (λ (c : Certificate). c) c.in_err-query.field-0.0
    (carries_line SpellsQueried Spells c.in-Some.text.now (lines c.in-Some.rest.now) (lines c.args.bytes.now) (whole n) c.in-Some.ensures.0 (steps_number c.in-Some.text.now n (sym c.in-Some-number_of.ensures)))
    refl c.in_err-query.ensures)

pub returns : goal.returns
returns c =
    let n = c.in-Some-number_of.line in
    let judged = carries_line SpellsQueried Spells c.in-Some.text.now (lines c.in-Some.rest.now) (lines c.args.bytes.now) (whole n) c.in-Some.ensures.0 (steps_number c.in-Some.text.now n (sym c.in-Some-number_of.ensures))
    (Ok (queried_of (c.in_ok-query.query, c.in_ok-query.counted))) c.in_ok-query.ensures in
    rw (c.from_vec.ensures, c.from_vec-2.ensures, c.from_vec-3.ensures) judged
