-- Counts of the members that pass a test.
use Rattle.std.proofs.Common.{◌≡◌, ◌≢◌, ◌⊎◌, inl, inr, ℕ, suc, ◌+◌, ◌<◌, ◌≤◌, Bool, true, false, cond, List, [], ◌∷◌, ◌++◌, length, map, Contains, refl, sym, ap, subst, ◌∙◌, arith, zero-add}
use Rattle.std.specs.List.{count_by}
use Rattle.std.proofs.lemmas.List.Sums.{sum_by-cons}
use Rattle.std.proofs.lemmas.Bool.{cases_Bool, false≢true}
use Rattle.topk_theory.proofs.AgreementLists.{contains_nil, contains_here, contains_there, contains_cases}

-- one member more
pub count_first : {X : Type 0} (p : X → Bool) (x : X) (xs : List X) → count_by p (x ∷ xs) ≡ cond (p x) 1 0 + count_by p xs
count_first p x xs = sum_by-cons (λ y. cond (p y) 1 0) x xs

pub count_yes : {X : Type 0} (p : X → Bool) (x : X) (xs : List X) → p x ≡ true → count_by p (x ∷ xs) ≡ suc (count_by p xs)
count_yes p x xs e =
    let one : cond {A = ℕ} (p x) 1 0 ≡ 1 = ap (λ b. cond b 1 0) e in
    omega (arith, count_first p x xs)

pub count_no : {X : Type 0} (p : X → Bool) (x : X) (xs : List X) → p x ≡ false → count_by p (x ∷ xs) ≡ count_by p xs
count_no p x xs e =
    let none : cond {A = ℕ} (p x) 1 0 ≡ 0 = ap (λ b. cond b 1 0) e in
    omega (arith, count_first p x xs)

-- ---- one test against another
pub count_le : {X : Type 0} (p q : X → Bool) (xs : List X) → ((x : X) → Contains xs x → p x ≡ true → q x ≡ true) → count_by p xs ≤ count_by q xs
count_le p q [] h = omega arith
count_le p q (x ∷ xs) h =
    let rest : count_by p xs ≤ count_by q xs = count_le p q xs (λ y c. h y (contains_there x xs y c)) in
    elim (cases_Bool (p x)) [
      | inl t ↦ omega (arith, count_yes p x xs t, count_yes q x xs (h x (contains_here x xs) t))
      | inr f ↦ omega (arith, count_no p x xs f, count_first q x xs)
    ]

-- with a member that passes the second alone
pub count_less : {X : Type 0} (p q : X → Bool) (xs : List X) (y : X) → ((x : X) → Contains xs x → p x ≡ true → q x ≡ true) → Contains xs y
    → p y ≡ false → q y ≡ true → count_by p xs < count_by q xs
count_less p q [] y h c f t = absurd (contains_nil y c)
count_less p q (x ∷ xs) y h c f t =
    let upto : count_by p xs ≤ count_by q xs = count_le p q xs (λ z d. h z (contains_there x xs z d)) in
    elim (contains_cases x xs y c) [
      | inl e ↦ (
          let no : p x ≡ false = ap p e ∙ f in
          let yes : q x ≡ true = ap q e ∙ t in
          omega (arith, count_no p x xs no, count_yes q x xs yes))
      | inr d ↦ (
          let rest : count_by p xs < count_by q xs = count_less p q xs y (λ z e. h z (contains_there x xs z e)) d f t in
          elim (cases_Bool (p x)) [
            | inl b ↦ omega (arith, count_yes p x xs b, count_yes q x xs (h x (contains_here x xs) b))
            | inr b ↦ omega (arith, count_no p x xs b, count_first q x xs)
          ])
    ]

pub count_same : {X : Type 0} (p q : X → Bool) (xs : List X) → ((x : X) → Contains xs x → p x ≡ q x) → count_by p xs ≡ count_by q xs
count_same p q xs h =
    let a = count_le p q xs (λ x c t. sym (h x c) ∙ t) in
    let b = count_le q p xs (λ x c t. h x c ∙ t) in
    omega (arith, a, b)

-- one test is the sum of two others
pub count_sum : {X : Type 0} (r p q : X → Bool) (xs : List X) → ((x : X) → Contains xs x → cond {A = ℕ} (r x) 1 0 ≡ cond (p x) 1 0 + cond (q x) 1 0)
    → count_by r xs ≡ count_by p xs + count_by q xs
count_sum r p q [] h = refl
count_sum r p q (x ∷ xs) h =
    let rest = count_sum r p q xs (λ y c. h y (contains_there x xs y c)) in
    let here = h x (contains_here x xs) in
    omega (arith, rest, here, count_first r x xs, count_first p x xs, count_first q x xs)

pub count_map : {X Y : Type 0} (f : X → Y) (p : Y → Bool) (xs : List X) → count_by p (map f xs) ≡ count_by (λ x. p (f x)) xs
count_map f p [] = refl
count_map f p (x ∷ xs) = omega (arith, count_map f p xs, count_first p (f x) (map f xs), count_first (λ y. p (f y)) x xs)

-- none passes where the count is none
pub count_none : {X : Type 0} (p : X → Bool) (xs : List X) → ((x : X) → Contains xs x → p x ≡ false) → count_by p xs ≡ 0
count_none p [] h = refl
count_none p (x ∷ xs) h = count_no p x xs (h x (contains_here x xs)) ∙ count_none p xs (λ y c. h y (contains_there x xs y c))

pub none_counted : {X : Type 0} (p : X → Bool) (xs : List X) (x : X) → count_by p xs ≤ 0 → Contains xs x → p x ≡ false
none_counted p [] x none c = absurd (contains_nil x c)
none_counted p (y ∷ xs) x none c =
    elim (cases_Bool (p y)) [
      | inl t ↦ absurd (let h : ⊥ = omega (arith, count_yes p y xs t) in h)
      | inr f ↦ elim (contains_cases y xs x c) [ inl e ↦ sym (ap p e) ∙ f | inr d ↦ none_counted p xs x (omega (arith, count_no p y xs f)) d ]
    ]

-- where a test counts more than another, a member passes it and fails the other
abbrev pub Differs : {X : Type 0} → (X → Bool) → (X → Bool) → List X → Type 0
Differs {X} p q xs = (x : X) × Contains xs x × (p x ≡ true) × (q x ≡ false)

differs_there : {X : Type 0} (p q : X → Bool) (x : X) (xs : List X) → Differs p q xs → Differs p q (x ∷ xs)
differs_there p q x xs r = (r.0, contains_there x xs r.0 r.1, r.2, r.3)

first_differs : {X : Type 0} (p q : X → Bool) (x : X) (xs : List X) → ((y : X) → Contains xs y → p y ≡ true → q y ≡ true)
    → (p x ≡ true) ⊎ (p x ≡ false) → (q x ≡ true) ⊎ (q x ≡ false) → Differs p q (x ∷ xs) ⊎ ((y : X) → Contains (x ∷ xs) y → p y ≡ true → q y ≡ true)
first_differs p q x xs rest (inl t) (inr f) = inl (x, contains_here x xs, t, f)
first_differs p q x xs rest (inl t) (inl u) = inr (λ y c e. elim (contains_cases x xs y c) [ inl s ↦ subst (λ z. q z ≡ true) s u | inr d ↦ rest y d e ])
first_differs p q x xs rest (inr v) other = inr (λ y c e. elim (contains_cases x xs y c) [ inl s ↦ absurd (false≢true (sym v ∙ ap p s ∙ e)) | inr d ↦ rest y d e ])

pub some_differs : {X : Type 0} (p q : X → Bool) (xs : List X) → Differs p q xs ⊎ ((x : X) → Contains xs x → p x ≡ true → q x ≡ true)
some_differs p q [] = inr (λ x c t. absurd (contains_nil x c))
some_differs p q (x ∷ xs) =
    elim (some_differs p q xs) [
      | inl r ↦ inl (differs_there p q x xs r)
      | inr rest ↦ first_differs p q x xs rest (cases_Bool (p x)) (cases_Bool (q x))
    ]

-- ---- a longer list
pub count_upto : {X : Type 0} (p : X → Bool) (xs : List X) → count_by p xs ≤ length xs
count_upto p [] = omega arith
count_upto p (x ∷ xs) =
    elim (cases_Bool (p x)) [
      | inl t ↦ omega (arith, count_upto p xs, count_yes p x xs t)
      | inr f ↦ omega (arith, count_upto p xs, count_no p x xs f)
    ]

pub count_short : {X : Type 0} (p : X → Bool) (xs : List X) (y : X) → Contains xs y → p y ≡ false → count_by p xs < length xs
count_short p [] y c f = absurd (contains_nil y c)
count_short p (x ∷ xs) y c f =
    elim (contains_cases x xs y c) [
      | inl e ↦ (let no : p x ≡ false = ap p e ∙ f in omega (arith, count_no p x xs no, count_upto p xs))
      | inr d ↦ (let rest : count_by p xs < length xs = count_short p xs y d f in elim (cases_Bool (p x)) [
        | inl t ↦ omega (arith, rest, count_yes p x xs t)
        | inr n ↦ omega (arith, rest, count_no p x xs n)
      ])
    ]

pub count_longer : {X : Type 0} (p : X → Bool) (xs ys : List X) → count_by p xs ≤ count_by p (xs ++ ys)
count_longer p [] ys = omega arith
count_longer p (x ∷ xs) ys =
    let rest : count_by p xs ≤ count_by p (xs ++ ys) = count_longer p xs ys in
    omega (arith, rest, count_first p x xs, count_first p x (xs ++ ys))

pub count_append : {X : Type 0} (p : X → Bool) (xs ys : List X) → count_by p (xs ++ ys) ≡ count_by p xs + count_by p ys
count_append p [] ys = sym (zero-add (count_by p ys))
count_append p (x ∷ xs) ys =
    let rest : count_by p (xs ++ ys) ≡ count_by p xs + count_by p ys = count_append p xs ys in
    omega (arith, rest, count_first p x xs, count_first p x (xs ++ ys))
