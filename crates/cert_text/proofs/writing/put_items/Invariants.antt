use Rattle.std.proofs.Common.{length, map, take}
use Rattle.topk_base.specs.Lines.{unlines}
use Rattle.tk_io.specs.Pieces.{Puts}
use Rattle.cert_text.specs.Certificate.{answer_line}
use Rattle.cert_text.proofs.writing.put_items.Given as goal

-- the lines of the items so far were put
abbrev pub invariant-loop-item : goal.invariant-loop-item
invariant-loop-item g l =
    Puts (g.P.Put.at l.fn.out) (g.P.Put.at l.out) (unlines (map answer_line (take (length l.yielded) l.items)))
