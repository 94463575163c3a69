use Rattle.std.proofs.Common.{◌+◌, Ok, Err, refl, subst}
use Rattle.topk_base.specs.Lines.{lines}
use Rattle.cert_text.specs.Guarantee.{has_guarantee}
use Rattle.cert_text.specs.Judging.{Finds, SpellsCounted, SpellsQueried, counted_of, queried_of}
use Rattle.cert_text.proofs.JudgingLaws.{finds_first, finds_fault, judged_here, judged_end, carries_line}
use Rattle.cert_text.proofs.SpellLaws.{steps_query, queried_end, queried_here}
use Rattle.cert_text.proofs.QueryLaws.{names_of_found}
use Rattle.cert_text.proofs.ExampleLaws.{queried_some}
use Rattle.cert_text.proofs.reader.read_queried.Goals as goal

pub returns-in_default : goal.returns-in_default
returns-in_default c =
    finds_first SpellsQueried (lines c.args.text.now) c.args.first (judged_end SpellsQueried c.args.text.now c.in_default.ensures queried_some queried_end)

pub returns-in-Ok-None : goal.returns-in-Ok-None
returns-in-Ok-None c =
    let found = rw c.in-Ok-None.field-0-is at c.in-Ok-None.ensures in
    finds_first SpellsQueried (lines c.args.text.now) c.args.first
    (judged_here SpellsQueried c.in-Some.line.now (lines c.in-Some.rest.now) (lines c.args.text.now) c.in-Some.ensures.0 queried_some (queried_here c.in-Some.line.now found))

pub read_counted-requires-clause-names : goal.read_counted-requires-clause-names
read_counted-requires-clause-names c = names_of_found c.in-Some.line.now c.in-Ok-Some.query (rw c.in-Ok-Some.field-0-is at c.in-Ok-Some.ensures)

pub returns-in-Err-read_counted : goal.returns-in-Err-read_counted
returns-in-Err-read_counted c =
    let query = c.in-Ok-Some.query in
    let found = rw c.in-Ok-Some.field-0-is at c.in-Ok-Some.ensures in
    finds_fault (SpellsCounted (has_guarantee query.algorithm) query.names) SpellsQueried (lines c.in-Some.rest.now) (lines c.args.text.now) (λ counted. (query, counted.0, counted.1, counted.2)) 1 c.args.first (c.args.first + 1) counted_of queried_of c.in-Err-read_counted.fault
    (carries_line (SpellsCounted (has_guarantee query.algorithm) query.names) SpellsQueried c.in-Some.line.now (lines c.in-Some.rest.now) (lines c.args.text.now) (λ counted. (query, counted.0, counted.1, counted.2)) c.in-Some.ensures.0 (steps_query c.in-Some.line.now query found))
    refl (subst (λ wanted. Finds (SpellsCounted wanted query.names) counted_of (c.args.first + 1) (lines c.in-Some.rest.now) (Err c.in-Err-read_counted.fault))
    c.has_guarantee-wanted.ensures c.in-Err-read_counted.ensures)

pub returns-in-Ok : goal.returns-in-Ok
returns-in-Ok c =
    let query = c.in-Ok-Some.query in
    let found = rw c.in-Ok-Some.field-0-is at c.in-Ok-Some.ensures in
    carries_line (SpellsCounted (has_guarantee query.algorithm) query.names) SpellsQueried c.in-Some.line.now (lines c.in-Some.rest.now) (lines c.args.text.now) (λ counted. (query, counted.0, counted.1, counted.2)) c.in-Some.ensures.0 (steps_query c.in-Some.line.now query found)
    (Ok (counted_of c.in-Ok.counted)) (rw c.has_guarantee-wanted.ensures at c.in-Ok.ensures)
