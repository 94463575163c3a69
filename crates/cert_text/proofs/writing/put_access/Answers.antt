use Rattle.std.proofs.Common.{ℕ, List, [], ◌∷◌, ◌++◌, codes, sym, ap}
use Rattle.std.specs.Fmt.{decimal}
use Rattle.tk_io.proofs.Putting.{puts_as}
use Rattle.cert_text.specs.Certificate.{spaced}
use Rattle.cert_text.proofs.writing.put_access.Goals as goal

pub returns-in-Sorted : goal.returns-in-Sorted
returns-in-Sorted g c =
    let rest : List (List ℕ) = decimal c.in-Sorted.object ∷ decimal c.in-Sorted.grade ∷ [] in
    rw c.in-Sorted.is (puts_as _ _ _ _ (ap (λ (name : List ℕ). spaced (codes "s" ∷ name ∷ rest) ++ 10 ∷ []) (sym c.name_of.ensures)) c.put_kind.ensures)

pub returns-in-Random : goal.returns-in-Random
returns-in-Random g c =
    let rest : List (List ℕ) = decimal c.in-Random.object ∷ decimal c.in-Random.grade ∷ [] in
    rw c.in-Random.is (puts_as _ _ _ _ (ap (λ (name : List ℕ). spaced (codes "r" ∷ name ∷ rest) ++ 10 ∷ []) (sym c.name_of-in-Random.ensures)) c.put_kind-in-Random.ensures)
