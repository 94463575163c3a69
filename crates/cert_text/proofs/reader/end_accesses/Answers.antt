use Rattle.std.proofs.Common.{refl, ap, ◌∙◌, ◌+◌}
use Rattle.topk_base.specs.Lines.{lines}
use Rattle.topk_base.proofs.LineLaws.{lines-nil}
use Rattle.cert_text.specs.Judging.{SpellsNone}
use Rattle.cert_text.proofs.JudgingLaws.{finds_first, judged_here}
use Rattle.cert_text.proofs.SpellLaws.{none_some, none_here}
use Rattle.cert_text.proofs.reader.end_accesses.Goals as goal

pub returns-in-Some : goal.returns-in-Some
returns-in-Some c =
    let value = c.args.accesses.items in
    finds_first (SpellsNone value) (lines c.args.rest.now) (c.args.number + 1) (judged_here (SpellsNone value) _ _ _ c.in-Some.ensures.0 (none_some value) (none_here value _))

pub returns-in-None : goal.returns-in-None
returns-in-None c = ((ap lines c.in-None.ensures ∙ lines-nil, refl), λ y spelled. spelled.1)
