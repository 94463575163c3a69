use Rattle.std.proofs.Common.{take}
use Rattle.tk_io.specs.Pieces.{Puts}
use Rattle.catalog_run.specs.Running.{outcomes_text}
use Rattle.catalog_run.proofs.texts.put_group.Given as goal

-- the texts of the outcomes so far were put
abbrev pub invariant-loop-place : goal.invariant-loop-place
invariant-loop-place g l = Puts (g.P.Put.at l.fn.out) (g.P.Put.at l.out) (outcomes_text l.first (take l.place l.outcomes))
