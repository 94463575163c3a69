use Rattle.std.proofs.Common.{subst, sym, ap, ◌∙◌, ◌++◌, codes}
use Rattle.std.specs.Fmt.{decimal}
use Rattle.std.proofs.lemmas.List.{append-nil}
use Rattle.tk_io.specs.Pieces.{Puts}
use Rattle.tk_io.proofs.Putting.{puts_none, puts_then}
use Rattle.query_text.proofs.printing.put_cost.Goals as goal

pub returns-in_default : goal.returns-in_default
returns-in_default g c = rw c.in_default.is (puts_none _)

pub returns : goal.returns
returns g c =
    rw c.in-Some.is
    (subst (Puts (g.P.Put.at c.args.out.now) (g.P.Put.at c.put_number-2.new.self))
    (ap (λ z. codes " cost " ++ (z ++ (codes " " ++ decimal c.from-2.result))) (ap decimal c.from.ensures)
    ∙ ap (λ z. codes " cost " ++ (decimal c.in-Some.cost.sorted ++ (codes " " ++ z))) (ap decimal c.from-2.ensures ∙ sym (append-nil (decimal c.in-Some.cost.random))))
    (puts_then _ _ _ _ _ c.put.ensures.puts (puts_then _ _ _ _ _ c.put_number.ensures.puts (puts_then _ _ _ _ _ c.put-2.ensures.puts c.put_number-2.ensures.puts))))
