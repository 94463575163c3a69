use Rattle.std.proofs.Common.{take}
use Rattle.topk_base.specs.Lines.{unlines}
use Rattle.bundle_text.specs.Bundle.{sections}
use Rattle.tk_io.specs.Pieces.{Puts}
use Rattle.bundle_text.specs.Numbered.{list_names}
use Rattle.bundle_text.proofs.table.put_sections.Given as goal

-- the sections of the lists so far were put
abbrev pub invariant-loop-place : goal.invariant-loop-place
invariant-loop-place g l =
    Puts (g.P.Put.at l.fn.out) (g.P.Put.at l.out) (unlines (sections (list_names l.place) (take l.place l.lists)))
