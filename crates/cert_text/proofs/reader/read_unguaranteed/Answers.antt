use Rattle.std.proofs.Common.{false, None, Ok, arith}
use Rattle.std.specs.Global.{Vec}
use Rattle.std.proofs.lemmas.Result.{err_from_is_err_and}
use Rattle.topk_base.specs.Lines.{lines}
use Rattle.topk_theory.specs.declared.access.Access.{Access}
use Rattle.cert_text.specs.declared.parts.Figures.{Figures}
use Rattle.cert_text.specs.Judging.{SpellsStopped, SpellsEnding, ending_of}
use Rattle.cert_text.proofs.JudgingLaws.{finds_fault}
use Rattle.cert_text.proofs.SpellLaws.{carries_stopped}
use Rattle.cert_text.proofs.reader.read_unguaranteed.Goals as goal

pub returns-in_err-figures : goal.returns-in_err-figures
returns-in_err-figures c =
    let names = c.args.names.now in
    let p = err_from_is_err_and c.from_residual.result c.from_residual.ensures.1 in
    rw (p.1, p.2) (finds_fault (SpellsStopped names) (SpellsEnding false names) (lines c.args.text.now) (lines c.args.text.now) (λ stopped. (None, stopped.0, stopped.1)) 0 c.args.first c.args.first
    (λ (stopped : Figures × Vec Access). (stopped.0, stopped.1.items)) ending_of c.in_err-figures.field-0.0
    (carries_stopped names (lines c.args.text.now)) (omega arith) c.in_err-figures.ensures)

pub returns : goal.returns
returns c =
    let names = c.args.names.now in
    carries_stopped names (lines c.args.text.now) (Ok (c.in_ok-figures.figures, c.in_ok-figures.accesses.items)) c.in_ok-figures.ensures
