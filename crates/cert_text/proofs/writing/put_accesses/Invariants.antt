use Rattle.std.proofs.Common.{length, map, take}
use Rattle.topk_base.specs.Lines.{unlines}
use Rattle.tk_io.specs.Pieces.{Puts}
use Rattle.cert_text.specs.Certificate.{access_line}
use Rattle.cert_text.proofs.writing.put_accesses.Given as goal

-- the lines of the accesses so far were put
abbrev pub invariant-loop-access : goal.invariant-loop-access
invariant-loop-access g l =
    Puts (g.P.Put.at l.fn.out) (g.P.Put.at l.out)
    (unlines (map (access_line l.names) (take (length l.yielded) l.transcript.accesses)))
