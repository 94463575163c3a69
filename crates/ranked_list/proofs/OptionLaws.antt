-- Options by cases, and those that a test finds empty.
use Rattle.std.proofs.Common.{◌≡◌, ◌⊎◌, ◌≤◌, ◌<◌, ℕ, List, length, inl, inr, true, false, Option, Some, None, is_some, is_none, refl, sym, Bor}
use Rattle.std.specs.List.{slice_get, HoldsAt}
use Rattle.std.specs.Option.{MatchOption, option_copied}
use Rattle.std.proofs.lemmas.Option.{slice_get_past, slice_get_read}

pub option_cases : {X : Type 0} (o : Option X) → (o ≡ None) ⊎ ((x : X) × (o ≡ Some x))
option_cases None = inl refl
option_cases (Some x) = inr (x, refl)

pub none_unless_some : {X : Type 0} (o : Option X) → is_some o ≡ false → o ≡ None
none_unless_some None e = refl
none_unless_some (Some x) e = absurd (cc)

pub none_if_is_none : {X : Type 0} (o : Option X) → is_none o ≡ true → o ≡ None
none_if_is_none None e = refl
none_if_is_none (Some x) e = absurd (cc)

-- what a slice's `get` gives is the member at this place, if there is one
pub got_at : {X : Type 0} (xs : List X) (place : ℕ) (got : Option (Bor X)) → MatchOption got (length xs ≤ place) (λ x. (place < length xs) × HoldsAt (λ y. x.now ≡ y) xs place)
    → option_copied got ≡ slice_get xs place
got_at xs place None past = sym (slice_get_past xs place past)
got_at xs place (Some x) found = sym (slice_get_read xs (length xs) place x.now refl found.0 (found.1 x.now))
