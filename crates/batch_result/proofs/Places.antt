-- What stands at a place of a list.
use Rattle.std.proofs.Common.{◌≡◌, ◌<◌, ◌+◌, inl, inr, ℕ, zero, suc, true, false, not, List, [], ◌∷◌, ◌++◌, length, map, take, drop, set, slice_index_or, refl, sym, ap, subst, arith, ◌==◌, ◌≢◌}
use Rattle.std.proofs.lemmas.Bool.Decides.{eqb_tells}
use Rattle.std.proofs.lemmas.List.{get_or_append_left, get_or_push}

-- an item that stands at a place
pub record StandsAt {A : Type 0} (xs : List A) (place : ℕ) : Type 0 where
  pub item : A
  pub is : item ≡ slice_index_or xs place item

pub stands_at : {A : Type 0} (xs : List A) (place : ℕ) → place < length xs → StandsAt xs place
stands_at [] place l = absurd (omega (arith, l))
stands_at (x ∷ xs) zero l = record { item = x; is = refl }
stands_at (x ∷ xs) (suc place) l = let rest = stands_at xs place (omega (arith, l)) in record { item = rest.item; is = rest.is }

-- whatever stands elsewhere, the item at a place that is there is the same
pub same_at : {A : Type 0} (xs : List A) (place : ℕ) (d e : A) → place < length xs → slice_index_or xs place d ≡ slice_index_or xs place e
same_at [] place d e l = absurd (omega (arith, l))
same_at (x ∷ xs) zero d e l = refl
same_at (x ∷ xs) (suc place) d e l = same_at xs place d e (omega (arith, l))

pub map_at : {A B : Type 0} (f : A → B) (xs : List A) (place : ℕ) (d : A) (e : B) → place < length xs
    → slice_index_or (map f xs) place e ≡ f (slice_index_or xs place d)
map_at f [] place d e l = absurd (omega (arith, l))
map_at f (x ∷ xs) zero d e l = refl
map_at f (x ∷ xs) (suc place) d e l = map_at f xs place d e (omega (arith, l))

-- a list whose item at a place is put again, but for what f doesn't read
pub map_set : {A B : Type 0} (f : A → B) (xs : List A) (place : ℕ) (x d : A) → place < length xs → f x ≡ f (slice_index_or xs place d)
    → map f (set xs place x) ≡ map f xs
map_set f [] place x d l e = absurd (omega (arith, l))
map_set f (y ∷ xs) zero x d l e = ap (λ b. b ∷ map f xs) e
map_set f (y ∷ xs) (suc place) x d l e = ap (λ bs. f y ∷ bs) (map_set f xs place x d (omega (arith, l)) e)

-- a slice that was lent from a whole vector comes back as what it became
pub lent_back : {A : Type 0} (old new : List A) → length new ≡ length old → take (length old) (new ++ drop (length new) old) ≡ new
lent_back old new same = subst (λ n. take n (new ++ drop (length new) old) ≡ new) same (front new (drop (length new) old))
  where
    front : {A : Type 0} (xs ys : List A) → take (length xs) (xs ++ ys) ≡ xs
    front [] ys = refl
    front (x ∷ xs) ys = ap (λ zs. x ∷ zs) (front xs ys)

-- one more item: the places before it and its own
pub all_but_last : {A : Type 0} (P : ℕ → A → Type 0) (xs : List A) (x d : A) → ((i : ℕ) → i < length xs → P i (slice_index_or xs i d)) → P (length xs) x
    → (i : ℕ) → i < length xs + 1 → P i (slice_index_or (xs ++ x ∷ []) i d)
all_but_last P xs x d before last i l =
    elim (eqb_tells i (length xs)) [
      | inl same ↦ subst (λ j. P j (slice_index_or (xs ++ x ∷ []) j d)) (sym same.1) (subst (P (length xs)) (sym (get_or_push xs x d (length xs) refl)) last)
      | inr apart ↦
          let within : i < length xs = let differ : i ≡ length xs → ⊥ = apart.1 in omega (arith, l, differ) in
          subst (P i) (sym (get_or_append_left xs (x ∷ []) d i within)) (before i within)
    ]

pub unequal : (a b : ℕ) → not (a == b) ≡ true → a ≢ b
unequal a b t e = elim (eqb_tells a b) [ inl same ↦ absurd (let f : not (a == b) ≡ false = ap not same.0 in cc) | inr apart ↦ apart.1 e ]
