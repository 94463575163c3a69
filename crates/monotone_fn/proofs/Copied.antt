-- What is copied one after another.
use Rattle.std.proofs.Common.{◌≡◌, ℕ, suc, ◌+◌, ◌<◌, ◌≤◌, List, [], ◌∷◌, ◌++◌, length, get_or, take, map, sym, ap, ◌∙◌, arith}
use Rattle.std.proofs.Math.Seq.{take-suc}
use Rattle.std.proofs.lemmas.List.{map-append, take_all}

take_next : {A : Type 0} (all : List A) (at : ℕ) (d : A) → at < length all → take (at + 1) all ≡ take at all ++ get_or all at d ∷ []
take_next all at d within =
    let next : at + 1 ≡ suc at = omega arith in
    ap (λ n. take n all) next ∙ take-suc all at d within

-- with a copy of the next one put behind the copies of those before, all up to there are copied
pub copied_next : {A B : Type 0} (f : A → B) (old new all : List A) (at : ℕ) (one copy : A) → at < length all → one ≡ get_or all at one
    → new ≡ old ++ copy ∷ [] → f copy ≡ f one → map f old ≡ map f (take at all) → map f new ≡ map f (take (at + 1) all)
copied_next f old new all at one copy within is put same before =
    ap (λ xs. map f xs) put ∙ map-append f old (copy ∷ [])
    ∙ ap (λ ys. ys ++ f copy ∷ []) before
    ∙ ap (λ y. map f (take at all) ++ y ∷ []) (same ∙ ap f is)
    ∙ sym (map-append f (take at all) (get_or all at one ∷ []))
    ∙ ap (λ xs. map f xs) (sym (take_next all at one within))

-- all of them
pub copied_all : {A B : Type 0} (f : A → B) (copies items whole : List A) (place : ℕ) (seen : List B) → length items ≤ place
    → map f copies ≡ map f (take place items) → items ≡ whole → map f whole ≡ seen → map f copies ≡ seen
copied_all f copies items whole place seen long same is view = same ∙ ap (map f) (take_all place items long) ∙ ap (map f) is ∙ view
