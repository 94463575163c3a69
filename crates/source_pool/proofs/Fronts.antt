-- What is read of a list at a place, after one more at its end.
use Rattle.std.proofs.Common.{◌≡◌, ◌<◌, ◌+◌, ◌⊎◌, inl, inr, ℕ, Option, Some, option_to_list, List, [], ◌∷◌, ◌++◌, length, get_or, take, refl, sym, ap, ◌∙◌, arith}
use Rattle.std.proofs.lemmas.List.{get_or_append_left, get_or_push, get_or-take, length_push, length-take, take_at, take-take}
use Rattle.std.proofs.lemmas.Bool.Decides.{eqb_tells}

-- a place up to the last is the last or before it
pub last_or_before : (n i : ℕ) → i < n + 1 → (i < n) ⊎ (i ≡ n)
last_or_before n i h = elim (eqb_tells i n) [ inl same ↦ inr same.1 | inr apart ↦ inl (let differ : i ≡ n → ⊥ = apart.1 in omega arith) ]

pub read_before : {X : Type 0} (xs : List X) (x d : X) (i : ℕ) → i < length xs → get_or (xs ++ x ∷ []) i d ≡ get_or xs i d
read_before xs x d i h = get_or_append_left xs (x ∷ []) d i h

pub read_last : {X : Type 0} (xs : List X) (x d : X) (i : ℕ) → i ≡ length xs → get_or (xs ++ x ∷ []) i d ≡ x
read_last xs x d i same = get_or_push xs x d i (sym same)

-- a front of a list without its last
pub front_before : {X : Type 0} (xs : List X) (x : X) (n : ℕ) (whole : List X) → length xs + 1 ≡ n → xs ++ x ∷ [] ≡ take n whole → xs ≡ take (length xs) whole
front_before xs x n whole size e =
    sym (take_at xs (x ∷ []) (length xs) refl) ∙ (ap (take (length xs)) e ∙ take-take (length xs) n whole (omega arith))

pub front_last : {X : Type 0} (xs : List X) (x d : X) (n : ℕ) (whole : List X) → length xs + 1 ≡ n → xs ++ x ∷ [] ≡ take n whole
    → x ≡ get_or whole (length xs) d
front_last xs x d n whole size e =
    sym (get_or_push xs x d (length xs) refl) ∙ (ap (λ ys. get_or ys (length xs) d) e ∙ get_or-take n whole (length xs) d (omega arith))

-- what a pop leaves, with what it gave
pub popped : {X : Type 0} (xs ys : List X) (o : Option X) (x : X) → xs ≡ ys ++ option_to_list o → o ≡ Some x → xs ≡ ys ++ x ∷ []
popped xs ys o x e is = e ∙ ap (λ one. ys ++ option_to_list one) is

-- a front without its last is shorter than the whole
pub front_within : {X : Type 0} (xs : List X) (x : X) (n : ℕ) (whole : List X) → xs ++ x ∷ [] ≡ take n whole → length xs < length whole
front_within xs x n whole e =
    let size : length (xs ++ x ∷ []) ≡ length (take n whole) = ap length e in
    omega (arith, length_push xs x, size, length-take n whole)

-- two fronts of lists of one length are of one length
pub fronts_size : {X Y : Type 0} (xs whole : List X) (ys others : List Y) (n : ℕ) → xs ≡ take n whole → ys ≡ take n others → length whole ≡ length others
    → length xs ≡ length ys
fronts_size xs whole ys others n e f same =
    let one : length xs ≡ length (take n whole) = ap length e in
    let other : length ys ≡ length (take n others) = ap length f in
    omega (arith, one, other, length-take n whole, length-take n others, same)
