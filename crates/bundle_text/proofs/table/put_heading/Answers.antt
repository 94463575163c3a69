use Rattle.std.proofs.Common.{[], ◌∷◌, ◌++◌}
use Rattle.std.specs.Prelude.{codes}
use Rattle.std.specs.Fmt.{decimal}
use Rattle.tk_io.proofs.Putting.{puts_then}
use Rattle.bundle_text.proofs.table.put_heading.Goals as goal

pub returns : goal.returns
returns g c =
    puts_then _ _ _ (codes "list l") (decimal c.args.number ++ 10 ∷ []) c.put.ensures.puts
    (puts_then _ _ _ (decimal c.args.number) (10 ∷ []) c.put_number.ensures.puts c.put-2.ensures.puts)
