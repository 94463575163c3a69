-- Lists in the opposite order.
use Rattle.std.proofs.Common.{List, [], ◌∷◌, Contains, reverse, inl, inr, sym, subst}
use Rattle.std.proofs.lemmas.List.{reverse-append}
use Rattle.std.proofs.lemmas.List.Elements.{Contains-append_left, Contains-append_right}
use Rattle.topk_theory.proofs.AgreementLists.{contains_nil, contains_here, contains_cases}

-- a member stands in the opposite order too
pub contains_back : {X : Type 0} → (xs : List X) (x : X) → Contains xs x → Contains (reverse xs) x
contains_back [] x c = absurd (contains_nil x c)
contains_back (y ∷ xs) x c =
    subst (λ zs. Contains zs x) (sym (reverse-append (y ∷ []) xs))
    (elim (contains_cases y xs x c) [
      | inl same ↦ Contains-append_right (reverse xs) (y ∷ []) x (subst (λ z. Contains (y ∷ []) z) same (contains_here y []))
      | inr there ↦ Contains-append_left (reverse xs) (y ∷ []) x (contains_back xs x there)
    ])
