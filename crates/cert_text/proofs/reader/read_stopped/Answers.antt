use Rattle.std.proofs.Common.{◌+◌, Ok, refl, sym}
use Rattle.std.specs.Global.{Vec}
use Rattle.std.proofs.lemmas.Result.{err_from_is_err_and}
use Rattle.topk_base.specs.Lines.{lines}
use Rattle.topk_theory.specs.declared.access.Access.{Access}
use Rattle.cert_text.specs.declared.parts.Figures.{Figures}
use Rattle.cert_text.specs.Judging.{SpellsAccesses, SpellsStopped}
use Rattle.cert_text.proofs.JudgingLaws.{finds_first, finds_fault, judged_here, judged_end, carries_line}
use Rattle.cert_text.proofs.SpellLaws.{steps_stop, stopped_some, stopped_end, stopped_here}
use Rattle.cert_text.proofs.reader.read_stopped.Goals as goal

pub returns-in_default : goal.returns-in_default
returns-in_default c =
    let names = c.args.names.now in
    finds_first (SpellsStopped names) (lines c.args.text.now) c.args.first (judged_end (SpellsStopped names) c.args.text.now c.in_default.ensures (stopped_some names) (stopped_end names))

pub returns-in_default-figures_of : goal.returns-in_default-figures_of
returns-in_default-figures_of c =
    let names = c.args.names.now in
    finds_first (SpellsStopped names) (lines c.args.text.now) c.args.first
    (judged_here (SpellsStopped names) c.in-Some.line.now (lines c.in-Some.rest.now) (lines c.args.text.now) c.in-Some.ensures.0 (stopped_some names)
    (stopped_here names c.in-Some.line.now (sym c.in_default-figures_of.ensures)))

pub returns-in_err-accesses : goal.returns-in_err-accesses
returns-in_err-accesses c =
    let names = c.args.names.now in
    let figures = c.in-Some-figures_of.figures in
    let p = err_from_is_err_and c.from_residual.result c.from_residual.ensures.1 in
    rw (p.1, p.2) (finds_fault (SpellsAccesses names) (SpellsStopped names) (lines c.in-Some.rest.now) (lines c.args.text.now) (λ more. (figures, more)) 1 c.args.first (c.args.first + 1)
    (λ (v : Vec Access). v.items) (λ (stopped : Figures × Vec Access). (stopped.0, stopped.1.items)) c.in_err-accesses.field-0.0
    (carries_line (SpellsAccesses names) (SpellsStopped names) c.in-Some.line.now (lines c.in-Some.rest.now) (lines c.args.text.now) (λ more. (figures, more)) c.in-Some.ensures.0
    (steps_stop names c.in-Some.line.now figures (sym c.in-Some-figures_of.ensures)))
    refl c.in_err-accesses.ensures)

pub returns : goal.returns
returns c =
    let names = c.args.names.now in
    let figures = c.in-Some-figures_of.figures in
    carries_line (SpellsAccesses names) (SpellsStopped names) c.in-Some.line.now (lines c.in-Some.rest.now) (lines c.args.text.now) (λ more. (figures, more)) c.in-Some.ensures.0
    (steps_stop names c.in-Some.line.now figures (sym c.in-Some-figures_of.ensures))
    (Ok c.in_ok-accesses.accesses.items) c.in_ok-accesses.ensures
