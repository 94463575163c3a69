use Rattle.std.proofs.Common.{[], ◌∷◌, codes}
use Rattle.std.specs.List.{concat}
use Rattle.tk_io.proofs.Putting.{puts_then}
use Rattle.bulk_run.specs.Text.{figure}
use Rattle.bulk_run.proofs.writing.put_accesses.Goals as goal

pub returns : goal.returns
returns g c =
    let sums = c.args.sums.now in
    let sorted = figure (codes " sorted ") sums.sorted in
    let random = figure (codes " random ") sums.random in
    let values = figure (codes " values ") sums.values in
    let end = codes "\n" in
    puts_then _ _ _ sorted (concat (random ∷ values ∷ end ∷ [])) c.put_figure.ensures
    (puts_then _ _ _ random (concat (values ∷ end ∷ [])) c.put_figure-2.ensures
    (puts_then _ _ _ values (concat (end ∷ [])) c.put_figure-3.ensures c.put.ensures.puts))
