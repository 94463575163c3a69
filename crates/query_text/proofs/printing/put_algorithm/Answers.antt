use Rattle.std.proofs.Common.{subst, sym, ap, ◌∙◌, ◌++◌, codes}
use Rattle.std.specs.Fmt.{decimal}
use Rattle.std.proofs.lemmas.List.{append-nil}
use Rattle.tk_io.specs.Pieces.{Puts}
use Rattle.tk_io.proofs.Putting.{puts_then}
use Rattle.query_text.specs.Shape.{algorithm_word}
use Rattle.query_text.specs.Printing.{algorithm_text}
use Rattle.query_text.proofs.printing.put_algorithm.Goals as goal

pub returns-in-Theta : goal.returns-in-Theta
returns-in-Theta g c =
    let p = c.in-Theta.p in
    let q = c.in-Theta.q in
    subst (Puts (g.P.Put.at c.args.out.now) (g.P.Put.at c.put_number-in-Theta.new.self))
    ((λ i. (c.word.ensures ∙ ap algorithm_word c.in-Theta.is) i ++ (decimal (c.from.ensures i) ++ (codes "/" ++ decimal (c.from-in-Theta.ensures i))))
    ∙ (ap (λ z. codes "theta " ++ (decimal p ++ (codes "/" ++ z))) (sym (append-nil (decimal q)))
    ∙ ap algorithm_text (sym c.in-Theta.is)))
    (puts_then _ _ _ _ _ c.put.ensures.puts (puts_then _ _ _ _ _ c.put_number.ensures.puts (puts_then _ _ _ _ _ c.put-in-Theta.ensures.puts c.put_number-in-Theta.ensures.puts)))

pub returns-in-Early : goal.returns-in-Early
returns-in-Early g c =
    subst (Puts (g.P.Put.at c.args.out.now) (g.P.Put.at c.put_number-in-Early.new.self))
    ((λ i. (c.word.ensures ∙ ap algorithm_word c.in-Early.is) i ++ decimal (c.from-in-Early.ensures i))
    ∙ (ap (λ z. codes "early " ++ z) (sym (append-nil (decimal c.in-Early.depth)))
    ∙ ap algorithm_text (sym c.in-Early.is)))
    (puts_then _ _ _ _ _ c.put.ensures.puts c.put_number-in-Early.ensures.puts)
