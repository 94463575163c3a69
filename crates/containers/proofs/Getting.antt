-- What is read of a list after a change, and of a list of one value.
use Rattle.std.proofs.Common.{◌≡◌, ◌≢◌, inl, inr, ℕ, zero, suc, ◌<◌, List, [], ◌∷◌, ◌++◌, length, set, replicate, slice_index_or, Some, refl, sym, ap, ◌∙◌, arith}
use Rattle.std.specs.List.{slice_get}
use Rattle.std.proofs.lemmas.Bool.{cases_lt}
use Rattle.std.proofs.lemmas.List.{length-set, get_or-set_same, get_or-set_other, length_push, get_or_push}
use Rattle.std.proofs.lemmas.Option.{slice_get_past, slice_get-get_or}

pub get_set_same : {X : Type 0} (xs : List X) (i : ℕ) (x : X) → i < length xs → slice_get (set xs i x) i ≡ Some x
get_set_same xs i x lt =
    let within : i < length (set xs i x) = omega (arith, length-set xs i x) in
    slice_get-get_or (set xs i x) i x within ∙ ap (λ y. Some y) (get_or-set_same xs i x x lt)

pub get_set_other : {X : Type 0} (xs : List X) (i j : ℕ) (x : X) → j ≢ i → slice_get (set xs i x) j ≡ slice_get xs j
get_set_other xs i j x apart =
    let same : length (set xs i x) ≡ length xs = length-set xs i x in
    elim (cases_lt j (length xs)) [
      | inl lt ↦ slice_get-get_or (set xs i x) j x (omega arith) ∙ ap (λ y. Some y) (get_or-set_other xs i j x x apart) ∙ sym (slice_get-get_or xs j x lt)
      | inr past ↦ slice_get_past (set xs i x) j (omega arith) ∙ sym (slice_get_past xs j past)
    ]

pub get_last : {X : Type 0} (xs : List X) (x : X) → slice_get (xs ++ x ∷ []) (length xs) ≡ Some x
get_last xs x = slice_get-get_or (xs ++ x ∷ []) (length xs) x (omega (arith, length_push xs x)) ∙ ap (λ y. Some y) (get_or_push xs x x (length xs) refl)

pub get_before : {X : Type 0} (xs : List X) (x : X) (i : ℕ) → i ≢ length xs → slice_get (xs ++ x ∷ []) i ≡ slice_get xs i
get_before [] x zero apart = absurd (apart refl)
get_before [] x (suc i) apart = refl
get_before (y ∷ xs) x zero apart = refl
get_before (y ∷ xs) x (suc i) apart = get_before xs x i (λ e. apart (ap (λ n. suc n) e))

-- a list of one value has it at each place, where it also stands for the places past the end
pub get_replicate : {X : Type 0} (d : X) (n i : ℕ) → slice_index_or (replicate n d) i d ≡ d
get_replicate d zero i = refl
get_replicate d (suc n) zero = refl
get_replicate d (suc n) (suc i) = get_replicate d n i
