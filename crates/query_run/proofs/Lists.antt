-- Laws on fronts of lists and on pairs of lists.
use Rattle.std.proofs.Common.{◌≡◌, ◌<◌, ◌≤◌, ◌+◌, ℕ, zero, suc, List, [], ◌∷◌, ◌++◌, length, take, slice_index_or, Contains, refl, ap, subst, ◌∙◌, arith, inl, inr, Some, slice_get}
use Rattle.std.specs.List.{AllZip, slice_set}
use Rattle.std.proofs.lemmas.Slice.Zip.{AllZip-long}
use Rattle.std.proofs.lemmas.Option.{same_Some}
use Rattle.topk_theory.proofs.AgreementLists.{slice_get_in_range, contains_nil, contains_here, contains_there, contains_cases}

-- a front with one more member
pub take_more : {X : Type 0} (xs : List X) (place : ℕ) (d : X) → place < length xs → take (place + 1) xs ≡ take place xs ++ slice_index_or xs place d ∷ []
take_more [] place d l = absurd (omega (arith, l))
take_more (x ∷ xs) zero d l = refl
take_more (x ∷ xs) (suc place) d l = let rest = take_more xs place d (omega (arith, l)) in let more : suc place + 1 ≡ suc (place + 1) = omega arith in ap (λ n. take n (x ∷ xs)) more ∙ ap (λ ys. x ∷ ys) rest

pub take_whole : {X : Type 0} (xs : List X) (place : ℕ) → length xs ≤ place → take place xs ≡ xs
take_whole [] zero l = refl
take_whole [] (suc place) l = refl
take_whole (x ∷ xs) zero l = absurd (omega (arith, l))
take_whole (x ∷ xs) (suc place) l = ap (λ ys. x ∷ ys) (take_whole xs place (omega (arith, l)))

-- pairs of lists are as long as each other
pub zip_length : {A B : Type 0} (R : A → B → Type 0) (xs : List A) (ys : List B) → AllZip R xs ys → length ys ≡ length xs
zip_length R xs ys h = AllZip-long R xs ys h

-- a pair of lists with one member changed
pub all_zip_set : {A B : Type 0} (R : A → B → Type 0) (xs : List A) (ys : List B) (i : ℕ) (y z : B) → AllZip R xs ys → slice_get ys i ≡ Some y
    → ((x : A) → R x y → R x z) → AllZip R xs (slice_set ys i z)
all_zip_set R [] [] i y z h e f = absurd (let l = slice_get_in_range [] i y e in omega (arith, l))
all_zip_set R [] (w ∷ ys) i y z h e f = absurd h
all_zip_set R (x ∷ xs) [] i y z h e f = absurd h
all_zip_set R (x ∷ xs) (w ∷ ys) zero y z h e f = let same : w ≡ y = same_Some _ _ e in (f x (subst (R x) same h.0), h.1)
all_zip_set R (x ∷ xs) (w ∷ ys) (suc i) y z h e f = (h.0, all_zip_set R xs ys i y z h.1 e f)

pub zip_member : {A B : Type 0} (R : A → B → Type 0) (xs : List A) (ys : List B) (y : B) → AllZip R xs ys → Contains ys y → (x : A) × Contains xs x × R x y
zip_member R [] [] y h c = absurd (contains_nil y c)
zip_member R [] (w ∷ ys) y h c = absurd h
zip_member R (x ∷ xs) [] y h c = absurd h
zip_member R (x ∷ xs) (w ∷ ys) y h c =
    elim (contains_cases w ys y c) [
      | inl same ↦ (x, contains_here x xs, subst (R x) same h.0)
      | inr there ↦ let rest = zip_member R xs ys y h.1 there in (rest.0, contains_there x xs rest.0 rest.1, rest.2)
    ]

pub all_zip_on : {A B : Type 0} (R S : A → B → Type 0) (xs : List A) (ys : List B) → ((x : A) (y : B) → R x y → S x y) → AllZip R xs ys → AllZip S xs ys
all_zip_on R S [] [] f h = tt
all_zip_on R S [] (y ∷ ys) f h = absurd h
all_zip_on R S (x ∷ xs) [] f h = absurd h
all_zip_on R S (x ∷ xs) (y ∷ ys) f h = (f x y h.0, all_zip_on R S xs ys f h.1)
