-- First members that pass, and lists by their members.
use Rattle.std.proofs.Common.{◌≡◌, ◌≤◌, ◌==◌, inl, inr, ℕ, Bool, true, false, cond, not, Option, Some, None, List, [], ◌∷◌, length, map, slice_get, nat_lt, Contains, refl, sym, ap, subst, ◌∙◌, ◌+◌}
use Rattle.std.specs.List.{find, position, position_or_len}
use Rattle.std.proofs.lemmas.Bool.{ltb-false}
use Rattle.std.proofs.lemmas.Bool.Decides.{eqb_tells}
use Rattle.std.proofs.lemmas.List.{length-map}
use Rattle.std.proofs.lemmas.List.Folds.{find_at}
use Rattle.std.proofs.lemmas.Option.{slice_get_past, cond_some}
use Rattle.topk_theory.proofs.AgreementLists.{contains_here, contains_there, contains_cases, contains_nil}
use Rattle.source_state.specs.Log.{first_of}

pub none_not_some : {A : Type 0} {x : A} → None ≡ Some x → ⊥
none_not_some e = cc

-- a choice whose first arm is there gives nothing: the test fails, and the second arm gives nothing
pub cond_none : {A : Type 0} (b : Bool) (x : A) (rest : Option A) → cond b (Some x) rest ≡ None → (b ≡ false) × (rest ≡ None)
cond_none true x rest e = absurd (cc)
cond_none false x rest e = (refl, e)

pub eqb_same : (n : ℕ) → (n == n) ≡ true
eqb_same n = elim (eqb_tells n n) [ inl t ↦ t.0 | inr f ↦ absurd (f.1 refl) ]

pub eqb_other : (m n : ℕ) → (m ≡ n → ⊥) → (m == n) ≡ false
eqb_other m n apart = elim (eqb_tells m n) [ inl t ↦ absurd (apart t.1) | inr f ↦ f.0 ]

-- the first place of a mapped list
place_map : {X Y : Type 0} (p : Y → Bool) (f : X → Y) (xs : List X) → position_or_len p (map f xs) ≡ position_or_len (λ x. p (f x)) xs
place_map p f [] = refl
place_map p f (x ∷ xs) = ap (λ n. cond (not (p (f x))) (1 + n) 0) (place_map p f xs)

pub position_map : {X Y : Type 0} (p : Y → Bool) (f : X → Y) (xs : List X) → position p (map f xs) ≡ position (λ x. p (f x)) xs
position_map p f xs =
    let place = place_map p f xs in
    let size : length (map f xs) ≡ length xs = length-map xs f in
    ap (λ (q : ℕ × ℕ). cond (nat_lt q.0 q.1) (Some q.0) None) (pair place size)
  where
    pair : {a b c d : ℕ} → a ≡ b → c ≡ d → ◌≡◌ {A = ℕ × ℕ} (a, c) (b, d)
    pair e f = cc

-- what is found is what stands at the first place
pub find_at_position : {X : Type 0} (p : X → Bool) (xs : List X) (i : ℕ) → position p xs ≡ Some i → find p xs ≡ slice_get xs i
find_at_position p xs i e = find_at p xs ∙ ap (slice_get xs) (cond_some (nat_lt (position_or_len p xs) (length xs)) (position_or_len p xs) i e).1

pub find_no_position : {X : Type 0} (p : X → Bool) (xs : List X) → position p xs ≡ None → find p xs ≡ None
find_no_position p xs e =
    let past : length xs ≤ position_or_len p xs = ltb-false (position_or_len p xs) (length xs) (cond_none (nat_lt (position_or_len p xs) (length xs)) (position_or_len p xs) None e).0 in
    find_at p xs ∙ slice_get_past xs (position_or_len p xs) past

-- nothing is found exactly where no member passes
pub find_none : {X : Type 0} (p : X → Bool) (xs : List X) → ((x : X) → Contains xs x → p x ≡ false) → find p xs ≡ None
find_none p [] h = refl
find_none p (x ∷ xs) h =
    subst (λ b. cond b (Some x) (find p xs) ≡ None) (sym (h x (contains_here x xs))) (find_none p xs (λ y c. h y (contains_there x xs y c)))

pub none_found : {X : Type 0} (p : X → Bool) (xs : List X) (x : X) → find p xs ≡ None → Contains xs x → p x ≡ false
none_found p [] x e c = absurd (contains_nil x c)
none_found p (y ∷ xs) x e c =
    let parts = cond_none (p y) y (find p xs) e in
    elim (contains_cases y xs x c) [
      | inl same ↦ subst (λ z. p z ≡ false) same parts.0
      | inr t ↦ none_found p xs x parts.1 t
    ]

-- a list without a first member is empty
pub no_first : {X : Type 0} (xs : List X) → first_of xs ≡ None → xs ≡ []
no_first [] e = refl
no_first (x ∷ xs) e = absurd (cc)

pub first_none_length : {X : Type 0} (xs : List X) → first_of xs ≡ None → length xs ≡ 0
first_none_length xs e = ap length (no_first xs e)
