use Rattle.std.proofs.Common.{length, map, take}
use Rattle.topk_base.specs.Lines.{unlines}
use Rattle.bundle_text.specs.Bundle.{row_line}
use Rattle.tk_io.specs.Pieces.{Puts}
use Rattle.bundle_text.proofs.rows.put_rows.Given as goal

-- the lines of the rows so far were put
abbrev pub invariant-loop-row : goal.invariant-loop-row
invariant-loop-row g l =
    Puts (g.P.Put.at l.fn.out) (g.P.Put.at l.out) (unlines (map row_line (take (length l.yielded) l.rows)))
