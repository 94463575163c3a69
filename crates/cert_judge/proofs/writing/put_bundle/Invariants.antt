use Rattle.std.proofs.Common.{ℕ, List, take}
use Rattle.std.specs.List.{flat_map, zip}
use Rattle.topk_base.specs.Lines.{unlines}
use Rattle.tk_io.specs.Pieces.{Puts}
use Rattle.ranked_list.specs.declared.row.Row.{Row}
use Rattle.bundle_text.specs.Bundle.{content, section}
use Rattle.cert_judge.proofs.writing.put_bundle.Given as goal

-- the lists so far were put
abbrev pub invariant-loop-place : goal.invariant-loop-place
invariant-loop-place g l =
    Puts (g.P.Put.at l.fn.out) (g.P.Put.at l.out) (flat_map (λ (list : List ℕ × List Row). unlines (section list.0 list.1)) (take l.place (zip (content l.bundle).names (content l.bundle).lists)))
