use Rattle.std.proofs.Common.{List, ℕ, [], ◌∷◌, ◌++◌, codes, subst}
use Rattle.std.specs.List.{concat}
use Rattle.std.specs.Fmt.{decimal}
use Rattle.tk_io.specs.Pieces.{Puts}
use Rattle.tk_io.proofs.Putting.{puts_then}
use Rattle.bundle_calls.proofs.comparing.put_figures.Goals as goal

pub returns : goal.returns
returns g c =
    let f = c.args.figures in
    let end : List (List ℕ) = (10 ∷ []) ∷ [] in
    let cost : List (List ℕ) = codes " cost " ∷ decimal f.cost ∷ end in
    let random : List (List ℕ) = codes " random " ∷ decimal f.random ∷ cost in
    let sorted : List (List ℕ) = codes " sorted " ∷ decimal f.sorted ∷ random in
    let depth : List (List ℕ) = codes " depth " ∷ decimal f.depth ∷ sorted in
    subst (λ word. Puts (g.P.Put.at c.args.out.now) (g.P.Put.at c.put-6.new.self) (word ++ concat depth)) c.word.ensures
    (puts_then _ _ _ c.word.result.now (concat depth) c.put.ensures.puts
    (puts_then _ _ _ (codes " depth ") (concat (decimal f.depth ∷ sorted)) c.put-2.ensures.puts
    (puts_then _ _ _ (decimal f.depth) (concat sorted) c.put_number.ensures.puts
    (puts_then _ _ _ (codes " sorted ") (concat (decimal f.sorted ∷ random)) c.put-3.ensures.puts
    (puts_then _ _ _ (decimal f.sorted) (concat random) c.put_number-2.ensures.puts
    (puts_then _ _ _ (codes " random ") (concat (decimal f.random ∷ cost)) c.put-4.ensures.puts
    (puts_then _ _ _ (decimal f.random) (concat cost) c.put_number-3.ensures.puts
    (puts_then _ _ _ (codes " cost ") (concat (decimal f.cost ∷ end)) c.put-5.ensures.puts
    (puts_then _ _ _ (decimal f.cost) (concat end) c.put_number-4.ensures.puts c.put-6.ensures.puts)))))))))
