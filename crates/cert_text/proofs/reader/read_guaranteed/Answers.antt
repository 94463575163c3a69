use Rattle.std.proofs.Common.{◌+◌, true, Some, Ok, refl, sym}
use Rattle.std.specs.Global.{Vec}
use Rattle.std.proofs.lemmas.Result.{err_from_is_err_and}
use Rattle.topk_base.specs.Lines.{lines}
use Rattle.topk_theory.specs.declared.access.Access.{Access}
use Rattle.cert_text.specs.declared.parts.Figures.{Figures}
use Rattle.cert_text.specs.Judging.{SpellsStopped, SpellsEnding, ending_of}
use Rattle.cert_text.proofs.JudgingLaws.{finds_first, finds_fault, judged_here, judged_end, carries_line}
use Rattle.cert_text.proofs.SpellLaws.{steps_guarantee, ending_some, ending_end, ending_here}
use Rattle.cert_text.proofs.reader.read_guaranteed.Goals as goal

pub returns-in_default : goal.returns-in_default
returns-in_default c =
    let names = c.args.names.now in
    finds_first (SpellsEnding true names) (lines c.args.text.now) c.args.first
    (judged_end (SpellsEnding true names) c.args.text.now c.in_default.ensures (ending_some true names) (ending_end true names))

pub returns-in_default-guarantee_of : goal.returns-in_default-guarantee_of
returns-in_default-guarantee_of c =
    let names = c.args.names.now in
    finds_first (SpellsEnding true names) (lines c.args.text.now) c.args.first
    (judged_here (SpellsEnding true names) c.in-Some.line.now (lines c.in-Some.rest.now) (lines c.args.text.now) c.in-Some.ensures.0 (ending_some true names)
    (ending_here names c.in-Some.line.now (sym c.in_default-guarantee_of.ensures)))

pub returns-in_err-figures : goal.returns-in_err-figures
returns-in_err-figures c =
    let names = c.args.names.now in
    let g = c.in-Some-guarantee_of.guarantee in
    let p = err_from_is_err_and c.from_residual.result c.from_residual.ensures.1 in
    rw (p.1, p.2) (finds_fault (SpellsStopped names) (SpellsEnding true names) (lines c.in-Some.rest.now) (lines c.args.text.now) (λ stopped. (Some g, stopped.0, stopped.1)) 1 c.args.first (c.args.first + 1)
    (λ (stopped : Figures × Vec Access). (stopped.0, stopped.1.items)) ending_of c.in_err-figures.field-0.0
    (carries_line (SpellsStopped names) (SpellsEnding true names) c.in-Some.line.now (lines c.in-Some.rest.now) (lines c.args.text.now) (λ stopped. (Some g, stopped.0, stopped.1)) c.in-Some.ensures.0
    (steps_guarantee names c.in-Some.line.now g (sym c.in-Some-guarantee_of.ensures)))
    refl c.in_err-figures.ensures)

pub returns : goal.returns
returns c =
    let names = c.args.names.now in
    let g = c.in-Some-guarantee_of.guarantee in
    carries_line (SpellsStopped names) (SpellsEnding true names) c.in-Some.line.now (lines c.in-Some.rest.now) (lines c.args.text.now) (λ stopped. (Some g, stopped.0, stopped.1)) c.in-Some.ensures.0
    (steps_guarantee names c.in-Some.line.now g (sym c.in-Some-guarantee_of.ensures))
    (Ok (c.in_ok-figures.figures, c.in_ok-figures.accesses.items)) c.in_ok-figures.ensures
