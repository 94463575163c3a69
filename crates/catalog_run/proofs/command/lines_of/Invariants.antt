use Rattle.std.proofs.Common.{◌≡◌, ◌++◌, map, length}
use Rattle.topk_base.specs.Lines.{lines}
use Rattle.catalog_run.proofs.command.lines_of.Given as goal

-- the lines so far and those of the rest are the lines of the text
abbrev pub invariant-loop-line : goal.invariant-loop-line
invariant-loop-line l = map (λ line. line.now) l.found.items ++ lines l.rest ≡ lines l.fn.text

abbrev pub decreases-loop-line : goal.decreases-loop-line
decreases-loop-line l = length l.rest
