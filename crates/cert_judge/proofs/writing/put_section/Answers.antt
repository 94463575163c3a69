use Rattle.std.proofs.Common.{[], ◌∷◌, ◌++◌, map, codes, ap, append_assoc}
use Rattle.tk_io.proofs.Putting.{puts_then, puts_as}
use Rattle.topk_base.specs.Lines.{unlines}
use Rattle.bundle_text.specs.Bundle.{row_line}
use Rattle.cert_judge.proofs.writing.put_section.Goals as goal

pub returns : goal.returns
returns g c =
    let name = c.args.name.now in
    let rows = unlines (map row_line c.args.rows.now) in
    puts_as _ _ _ _ (ap (λ t. codes "list " ++ t) (append_assoc name (10 ∷ []) rows))
    (puts_then _ _ _ (codes "list ") (name ++ (10 ∷ rows)) c.put.ensures.puts
    (puts_then _ _ _ name (10 ∷ rows) c.put-2.ensures.puts
    (puts_then _ _ _ (10 ∷ []) rows c.put-3.ensures.puts c.put_rows.ensures)))
