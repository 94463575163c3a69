use Rattle.std.proofs.Common.{take, zip}
use Rattle.tk_io.specs.Pieces.{Puts}
use Rattle.cert_text.proofs.VersionLines.{versions_text}
use Rattle.cert_text.proofs.writing.put_versions.Given as goal

-- the lines of the versions so far were put
abbrev pub invariant-loop-list : goal.invariant-loop-list
invariant-loop-list g l =
    Puts (g.P.Put.at l.fn.out) (g.P.Put.at l.out) (versions_text (take l.list (zip l.names l.versions)))
