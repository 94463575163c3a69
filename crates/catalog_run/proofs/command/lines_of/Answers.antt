use Rattle.std.proofs.Common.{◌++◌, map, sym, ap, ◌∙◌, append-nil}
use Rattle.topk_base.specs.Lines.{lines}
use Rattle.topk_base.proofs.LineLaws.{lines-nil}
use Rattle.catalog_run.proofs.command.lines_of.Goals as goal

pub returns : goal.returns
returns c =
    let none = ap lines c.in_default.ensures ∙ lines-nil in
    sym (append-nil (map (λ line. line.now) c.loop-line.found.items))
    ∙ ap (λ ls. map (λ line. line.now) c.loop-line.found.items ++ ls) (sym none)
    ∙ c.loop-line.invariant
