use Rattle.std.proofs.Common.{[], ◌∷◌, codes}
use Rattle.std.specs.List.{concat}
use Rattle.tk_io.proofs.Putting.{puts_then, puts_as}
use Rattle.cert_judge.specs.Text.{named}
use Rattle.cert_judge.proofs.Putting.{concat_end}
use Rattle.cert_judge.proofs.writing.put_beaten.Goals as goal

pub returns : goal.returns
returns g c =
    let inside = named (codes "beaten inside ") c.args.inside in
    let low = named (codes " low ") c.args.low in
    let outside = named (codes " outside ") c.args.outside in
    let high = named (codes " high ") c.args.high in
    let end = 10 ∷ [] in
    puts_as _ _ _ _ (concat_end (inside ∷ low ∷ outside ∷ high ∷ []) end)
    (puts_then _ _ _ inside (concat (low ∷ outside ∷ high ∷ end ∷ [])) (rw c.from.ensures at c.put_named.ensures)
    (puts_then _ _ _ low (concat (outside ∷ high ∷ end ∷ [])) c.put_named-2.ensures
    (puts_then _ _ _ outside (concat (high ∷ end ∷ [])) (rw c.from-2.ensures at c.put_named-3.ensures)
    (puts_then _ _ _ high (concat (end ∷ [])) c.put_named-4.ensures c.put.ensures.puts))))
