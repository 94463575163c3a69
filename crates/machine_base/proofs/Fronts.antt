-- Fronts and ends of lists, and lists without repeats.
use Rattle.std.proofs.Common.{◌≡◌, ◌≢◌, ℕ, zero, suc, ◌+◌, ◌≤◌, inl, inr, List, [], ◌∷◌, ◌++◌, take, drop, AllPairs, Contains, Some, sym, ap, ◌∙◌, arith, append-nil, take-append-drop}
use Rattle.std.specs.List.{slice_get}
use Rattle.std.proofs.lemmas.Option.{none-some, same_Some}
use Rattle.topk_theory.proofs.AgreementLists.{contains_nil, contains_cases, slice_get_contains, distinct_tail}

-- what stands at a place, where the end of a list from there on is known
pub get_of_drop : {X : Type 0} (xs : List X) (p : ℕ) (y : X) (ys : List X) → y ∷ ys ≡ drop p xs → slice_get xs p ≡ Some y
get_of_drop [] zero y ys e = absurd (cc)
get_of_drop [] (suc p) y ys e = absurd (cc)
get_of_drop (x ∷ xs) zero y ys e = ap (λ z. Some z) (sym (heads y x ys xs e))
  where
    heads : {X : Type 0} (a b : X) (s t : List X) → a ∷ s ≡ b ∷ t → a ≡ b
    heads a b s t e = cc
get_of_drop (x ∷ xs) (suc p) y ys e = get_of_drop xs p y ys e

rest_of_drop : {X : Type 0} (xs : List X) (p : ℕ) (y : X) (ys : List X) → y ∷ ys ≡ drop p xs → ys ≡ drop (suc p) xs
rest_of_drop [] zero y ys e = absurd (cc)
rest_of_drop [] (suc p) y ys e = absurd (cc)
rest_of_drop (x ∷ xs) zero y ys e = tails y x ys xs e
  where
    tails : {X : Type 0} (a b : X) (s t : List X) → a ∷ s ≡ b ∷ t → s ≡ t
    tails a b s t e = cc
rest_of_drop (x ∷ xs) (suc p) y ys e = rest_of_drop xs p y ys e

pub drop_next : {X : Type 0} (xs : List X) (p : ℕ) (y : X) (ys : List X) → y ∷ ys ≡ drop p xs → ys ≡ drop (p + 1) xs
drop_next xs p y ys e = let one : suc p ≡ p + 1 = omega arith in rest_of_drop xs p y ys e ∙ ap (λ q. drop q xs) one

front_of_drop : {X : Type 0} (xs : List X) (p : ℕ) (y : X) (ys : List X) → y ∷ ys ≡ drop p xs → take (suc p) xs ≡ take p xs ++ y ∷ []
front_of_drop [] zero y ys e = absurd (cc)
front_of_drop [] (suc p) y ys e = absurd (cc)
front_of_drop (x ∷ xs) zero y ys e = ap (λ z. z ∷ []) (sym (heads y x ys xs e))
  where
    heads : {X : Type 0} (a b : X) (s t : List X) → a ∷ s ≡ b ∷ t → a ≡ b
    heads a b s t e = cc
front_of_drop (x ∷ xs) (suc p) y ys e = ap (λ zs. x ∷ zs) (front_of_drop xs p y ys e)

pub take_next : {X : Type 0} (xs : List X) (p : ℕ) (y : X) (ys : List X) → y ∷ ys ≡ drop p xs → take (p + 1) xs ≡ take p xs ++ y ∷ []
take_next xs p y ys e = let one : p + 1 ≡ suc p = omega arith in ap (λ q. take q xs) one ∙ front_of_drop xs p y ys e

pub take_whole : {X : Type 0} (xs : List X) (p : ℕ) → [] ≡ drop p xs → take p xs ≡ xs
take_whole xs p e = sym (append-nil (take p xs)) ∙ ap (λ ys. take p xs ++ ys) e ∙ take-append-drop p xs

pub drop_here : {X : Type 0} (xs : List X) (p : ℕ) (x : X) → slice_get xs p ≡ Some x → drop p xs ≡ x ∷ drop (suc p) xs
drop_here [] p x e = absurd (none-some x e)
drop_here (y ∷ xs) zero x e = ap (λ z. z ∷ xs) (same_Some y x e)
drop_here (y ∷ xs) (suc p) x e = drop_here xs p x e

-- in a list without repeats a member stands neither before its place nor behind it
head_apart : (x y : ℕ) (xs : List ℕ) → AllPairs (λ (one : ℕ) (other : ℕ). one ≢ other) (x ∷ xs) → Contains xs y → x ≢ y
head_apart x y xs apart c = λ e. apart 0 (suc c.0) y (omega arith) (let w = c.1 in omega arith) (e ∙ sym c.2)

pub none_behind : (xs : List ℕ) (p x : ℕ) → AllPairs (λ (one : ℕ) (other : ℕ). one ≢ other) xs → slice_get xs p ≡ Some x → ¬ Contains (drop (suc p) xs) x
none_behind [] p x apart e = λ c. absurd (none-some x e)
none_behind (y ∷ xs) zero x apart e = λ c. head_apart y x xs apart c (same_Some y x e)
none_behind (y ∷ xs) (suc p) x apart e = none_behind xs p x (distinct_tail y xs apart) e

pub none_before : (xs : List ℕ) (p x : ℕ) → AllPairs (λ (one : ℕ) (other : ℕ). one ≢ other) xs → slice_get xs p ≡ Some x → ¬ Contains (take p xs) x
none_before [] p x apart e = λ c. absurd (none-some x e)
none_before (y ∷ xs) zero x apart e = λ c. contains_nil x c
none_before (y ∷ xs) (suc p) x apart e = λ c.
    elim (contains_cases y (take p xs) x c) [
      | inl same ↦ head_apart y x xs apart (slice_get_contains xs p x e) same
      | inr there ↦ none_before xs p x (distinct_tail y xs apart) e there
    ]
