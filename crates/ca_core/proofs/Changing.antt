-- A loop that changes each item of a list in its place.
use Rattle.std.proofs.Common.{◌≡◌, ℕ, zero, suc, ◌+◌, ◌<◌, ◌≤◌, List, [], ◌∷◌, ◌++◌, length, map, take, drop, get_or, set, refl, ap, ◌∙◌, arith}

-- the first of a list are changed: the next one stands there unchanged, and is changed in its place
pub next_unchanged : {X : Type 0} (f : X → X) (old : List X) (i : ℕ) (d : X) → i < length old → get_or (map f (take i old) ++ drop i old) i d ≡ get_or old i d
next_unchanged f [] i d l = absurd (omega arith)
next_unchanged f (x ∷ old) zero d l = refl
next_unchanged f (x ∷ old) (suc i) d l = next_unchanged f old i d (omega arith)

set_next : {X : Type 0} (f : X → X) (old : List X) (i : ℕ) (d : X) → i < length old
    → set (map f (take i old) ++ drop i old) i (f (get_or old i d)) ≡ map f (take (suc i) old) ++ drop (suc i) old
set_next f [] i d l = absurd (omega arith)
set_next f (x ∷ old) zero d l = refl
set_next f (x ∷ old) (suc i) d l = ap (λ xs. f x ∷ xs) (set_next f old i d (omega arith))

pub changed_more : {X : Type 0} (f : X → X) (old now : List X) (i : ℕ) (d y : X) → i < length old → now ≡ map f (take i old) ++ drop i old
    → y ≡ f (get_or now i d) → set now i y ≡ map f (take (i + 1) old) ++ drop (i + 1) old
changed_more f old now i d y l same is =
    let next : suc i ≡ i + 1 = omega arith in
    let unchanged : get_or now i d ≡ get_or old i d = ap (λ xs. get_or xs i d) same ∙ next_unchanged f old i d l in
    ap (λ z. set now i z) (is ∙ ap f unchanged) ∙ ap (λ xs. set xs i (f (get_or old i d))) same ∙ set_next f old i d l ∙ ap (λ j. map f (take j old) ++ drop j old) next

pub all_changed : {X : Type 0} (f : X → X) (old : List X) (i : ℕ) → length old ≤ i → map f (take i old) ++ drop i old ≡ map f old
all_changed f [] zero l = refl
all_changed f [] (suc i) l = refl
all_changed f (x ∷ old) zero l = absurd (omega arith)
all_changed f (x ∷ old) (suc i) l = ap (λ xs. f x ∷ xs) (all_changed f old i (omega arith))
