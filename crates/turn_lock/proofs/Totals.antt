-- Sums over a list in which one place changes, and lists in which two places change.
use Rattle.std.proofs.Common.{◌≡◌, ◌≢◌, ℕ, zero, suc, ◌+◌, ◌≤◌, List, [], ◌∷◌, ◌++◌, set, refl, sym, ap, arith}
use mathlib.Core.Option.{some, some-injective, some-ne-none}
use lib.ListN.{get_elem?}
use Rattle.turn_lock.specs.Rule.{total}

module _ {A : Type 0} where
  pub total_set : (f : A → ℕ) (l : List A) (i : ℕ) (a b : A) → get_elem? l i ≡ some a → total f (set l i b) + f a ≡ total f l + f b
  total_set f [] i a b e = absurd (some-ne-none a (sym e))
  total_set f (x ∷ xs) zero a b e = let h : f x ≡ f a = ap f (some-injective x a e) in omega arith
  total_set f (x ∷ xs) (suc i) a b e = let h = total_set f xs i a b e in omega arith

  pub total_at : (f : A → ℕ) (l : List A) (i : ℕ) (a : A) → get_elem? l i ≡ some a → f a ≤ total f l
  total_at f [] i a e = absurd (some-ne-none a (sym e))
  total_at f (x ∷ xs) zero a e = let h : f x ≡ f a = ap f (some-injective x a e) in omega arith
  total_at f (x ∷ xs) (suc i) a e = let h = total_at f xs i a e in omega arith

  pub total_snoc : (f : A → ℕ) (l : List A) (a : A) → total f (l ++ a ∷ []) ≡ total f l + f a
  total_snoc f [] a = omega arith
  total_snoc f (x ∷ xs) a = let h = total_snoc f xs a in omega arith

  pub total_below : (f g : A → ℕ) (l : List A) → ((i : ℕ) (a : A) → get_elem? l i ≡ some a → f a ≤ g a) → total f l ≤ total g l
  total_below f g [] h = omega arith
  total_below f g (x ∷ xs) h = let here = h 0 x refl in let rest = total_below f g xs (λ i. h (suc i)) in omega arith

  pub total_none : (f : A → ℕ) (l : List A) → ((i : ℕ) (a : A) → get_elem? l i ≡ some a → f a ≡ 0) → total f l ≡ 0
  total_none f [] h = refl
  total_none f (x ∷ xs) h = let here = h 0 x refl in let rest = total_none f xs (λ i. h (suc i)) in omega arith

  pub total_alone : (f : A → ℕ) (l : List A) (i : ℕ) (a : A) → get_elem? l i ≡ some a
      → ((j : ℕ) (b : A) → j ≢ i → get_elem? l j ≡ some b → f b ≡ 0) → total f l ≡ f a
  total_alone f [] i a e h = absurd (some-ne-none a (sym e))
  total_alone f (x ∷ xs) zero a e h = let here : f x ≡ f a = ap f (some-injective x a e) in
      let rest = total_none f xs (λ j b at. h (suc j) b (λ (z : suc j ≡ 0). absurd (omega arith)) at) in omega arith
  total_alone f (x ∷ xs) (suc i) a e h = let here = h 0 x (λ (z : 0 ≡ suc i). absurd (omega arith)) refl in
      let rest = total_alone f xs i a e (λ j b ne at. h (suc j) b (λ (z : suc j ≡ suc i). ne (omega arith)) at) in omega arith

  pub total_two : (f : A → ℕ) (l : List A) (i j : ℕ) (a b : A) → i ≢ j → get_elem? l i ≡ some a → get_elem? l j ≡ some b → f a + f b ≤ total f l
  total_two f [] i j a b ne e d = absurd (some-ne-none a (sym e))
  total_two f (x ∷ xs) zero zero a b ne e d = absurd (ne refl)
  total_two f (x ∷ xs) zero (suc j) a b ne e d = let here : f x ≡ f a = ap f (some-injective x a e) in let rest = total_at f xs j b d in omega arith
  total_two f (x ∷ xs) (suc i) zero a b ne e d = let here : f x ≡ f b = ap f (some-injective x b d) in let rest = total_at f xs i a e in omega arith
  total_two f (x ∷ xs) (suc i) (suc j) a b ne e d = let rest = total_two f xs i j a b (λ z. ne (ap suc z)) e d in omega arith

  pub set_there : (l : List A) (i : ℕ) (a b : A) → get_elem? l i ≡ some a → get_elem? (set l i b) i ≡ some b
  set_there [] i a b e = absurd (some-ne-none a (sym e))
  set_there (x ∷ xs) zero a b e = refl
  set_there (x ∷ xs) (suc i) a b e = set_there xs i a b e

  pub set_swapped : (l : List A) (i j : ℕ) (a b : A) → j ≢ i → set (set l i a) j b ≡ set (set l j b) i a
  set_swapped [] i j a b ne = refl
  set_swapped (x ∷ xs) zero zero a b ne = absurd (ne refl)
  set_swapped (x ∷ xs) zero (suc j) a b ne = refl
  set_swapped (x ∷ xs) (suc i) zero a b ne = refl
  set_swapped (x ∷ xs) (suc i) (suc j) a b ne = ap (λ l. x ∷ l) (set_swapped xs i j a b (λ z. ne (ap suc z)))
