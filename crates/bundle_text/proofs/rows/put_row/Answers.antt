use Rattle.std.proofs.Common.{[], ◌∷◌, ◌++◌, append_assoc, ap₂, sym, ◌∙◌}
use Rattle.std.specs.Fmt.{decimal}
use Rattle.tk_io.proofs.Putting.{puts_then, puts_as}
use Rattle.bundle_text.proofs.rows.put_row.Goals as goal

pub returns : goal.returns
returns g c =
    let object = decimal c.from.result in
    let grade = decimal c.from-2.result in
    puts_as _ _ _ _ (ap₂ (λ o g. (decimal o ++ 44 ∷ decimal g) ++ 10 ∷ []) (sym c.from.ensures) (sym c.from-2.ensures) ∙ append_assoc object (44 ∷ grade) (10 ∷ []))
    (puts_then _ _ _ object (44 ∷ (grade ++ 10 ∷ [])) c.put_number.ensures.puts
    (puts_then _ _ _ (44 ∷ []) (grade ++ 10 ∷ []) c.put.ensures.puts
    (puts_then _ _ _ grade (10 ∷ []) c.put_number-2.ensures.puts c.put-2.ensures.puts)))
