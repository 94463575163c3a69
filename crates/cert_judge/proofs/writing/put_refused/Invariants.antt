use Rattle.std.proofs.Common.{take}
use Rattle.tk_io.specs.Pieces.{Puts}
use Rattle.cert_judge.specs.Text.{refused_line}
use Rattle.cert_judge.proofs.writing.put_refused.Given as goal

-- the name and the fields so far were put
abbrev pub invariant-loop-field : goal.invariant-loop-field
invariant-loop-field g l =
    Puts (g.P.Put.at l.fn.out) (g.P.Put.at l.out) (refused_line l.name (take l.field-index l.fields))
