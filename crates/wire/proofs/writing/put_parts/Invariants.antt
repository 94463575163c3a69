use Rattle.std.proofs.Common.{map, take}
use Rattle.tk_io.specs.Pieces.{Puts}
use Rattle.wire.specs.Wording.{part_text}
use Rattle.wire.specs.Writing.{joined}
use Rattle.wire.proofs.writing.put_parts.Given as goal

-- the parts so far were put
abbrev pub invariant-loop-part : goal.invariant-loop-part
invariant-loop-part g l = Puts (g.P.Put.at l.fn.link) (g.P.Put.at l.link) (joined (map part_text (take l.part-index l.parts)))
