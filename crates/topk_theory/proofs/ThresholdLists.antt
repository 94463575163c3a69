-- Filters, counts and maps, by members.
use Rattle.std.proofs.Common.{◌≡◌, ℕ, suc, ◌≤◌, inl, inr, Bool, true, false, cond, List, [], ◌∷◌, length, map, Contains, refl, sym, ap, subst, ◌∙◌, filter, count_by}
use Rattle.std.specs.List.{list_any, AllZip, flat_map}
use Rattle.std.proofs.lemmas.Bool.{cases_Bool, true≢false, or_cases, or_left, or_right, or_from, or_parts}
use Rattle.std.proofs.lemmas.List.Sums.{length-filter, count_by-le-length}
use Rattle.std.proofs.lemmas.List.Elements.{Contains-append_cases}
use Rattle.monotone_fn.specs.Value.{NoSmaller}
use Rattle.topk_theory.proofs.AgreementLists.{contains_nil, contains_here, contains_there, contains_cases, no_smaller}

pub filter_here : {X : Type 0} (p : X → Bool) (x : X) (xs : List X) → p x ≡ true → filter p (x ∷ xs) ≡ x ∷ filter p xs
filter_here p x xs t = ap (λ b. cond b (x ∷ filter p xs) (filter p xs)) t

pub filter_gone : {X : Type 0} (p : X → Bool) (x : X) (xs : List X) → p x ≡ false → filter p (x ∷ xs) ≡ filter p xs
filter_gone p x xs f = ap (λ b. cond b (x ∷ filter p xs) (filter p xs)) f

-- what a filter keeps
pub contains_filter : {X : Type 0} (p : X → Bool) (xs : List X) (x : X) → Contains xs x → p x ≡ true → Contains (filter p xs) x
contains_filter p [] x h t = absurd (contains_nil x h)
contains_filter p (y ∷ xs) x h t =
    elim (cases_Bool (p y)) [
      | inl passes ↦ subst (λ ys. Contains ys x) (sym (filter_here p y xs passes)) (elim (contains_cases y xs x h) [
        | inl e ↦ subst (λ z. Contains (y ∷ filter p xs) z) e (contains_here y (filter p xs))
        | inr r ↦ contains_there y (filter p xs) x (contains_filter p xs x r t)
      ])
      | inr fails ↦ subst (λ ys. Contains ys x) (sym (filter_gone p y xs fails)) (elim (contains_cases y xs x h) [
        | inl e ↦ absurd (true≢false (sym t ∙ ap p (sym e) ∙ fails))
        | inr r ↦ contains_filter p xs x r t
      ])
    ]

pub contains_from_filter : {X : Type 0} (p : X → Bool) (xs : List X) (x : X) → Contains (filter p xs) x → Contains xs x × (p x ≡ true)
contains_from_filter p [] x h = absurd (contains_nil x h)
contains_from_filter p (y ∷ xs) x h =
    elim (cases_Bool (p y)) [
      | inl passes ↦ elim (contains_cases y (filter p xs) x (subst (λ ys. Contains ys x) (filter_here p y xs passes) h)) [
        | inl e ↦ (subst (λ z. Contains (y ∷ xs) z) e (contains_here y xs), ap p (sym e) ∙ passes)
        | inr r ↦ let k = contains_from_filter p xs x r in (contains_there y xs x k.0, k.1)
      ]
      | inr fails ↦ let k = contains_from_filter p xs x (subst (λ ys. Contains ys x) (filter_gone p y xs fails) h) in (contains_there y xs x k.0, k.1)
    ]

-- a filter that every member passes
pub filter_all : {X : Type 0} (p : X → Bool) (xs : List X) → ((x : X) → Contains xs x → p x ≡ true) → filter p xs ≡ xs
filter_all p [] h = refl
filter_all p (x ∷ xs) h = filter_here p x xs (h x (contains_here x xs)) ∙ ap (λ ys. x ∷ ys) (filter_all p xs (λ y k. h y (contains_there x xs y k)))

pub filter_same : {X : Type 0} (p q : X → Bool) (xs : List X) → ((x : X) → Contains xs x → p x ≡ q x) → filter p xs ≡ filter q xs
filter_same p q [] h = refl
filter_same p q (x ∷ xs) h =
    ap (λ b. cond b (x ∷ filter p xs) (filter p xs)) (h x (contains_here x xs)) ∙ ap (λ ys. cond (q x) (x ∷ ys) ys) (filter_same p q xs (λ y k. h y (contains_there x xs y k)))

pub count_all : {X : Type 0} (p : X → Bool) (xs : List X) → ((x : X) → Contains xs x → p x ≡ true) → count_by p xs ≡ length xs
count_all p xs h = sym (length-filter p xs) ∙ ap length (filter_all p xs h)

pub filter_fits : {X : Type 0} (p : X → Bool) (xs : List X) → length (filter p xs) ≤ length xs
filter_fits p xs = subst (λ n. n ≤ length xs) (sym (length-filter p xs)) (count_by-le-length p xs)

pub length-map : {X Y : Type 0} (f : X → Y) (xs : List X) → length (map f xs) ≡ length xs
length-map f [] = refl
length-map f (x ∷ xs) = ap suc (length-map f xs)

pub filter_map_of : {X Y : Type 0} (p : Y → Bool) (f : X → Y) (xs : List X) → filter p (map f xs) ≡ map f (filter (λ x. p (f x)) xs)
filter_map_of p f [] = refl
filter_map_of p f (x ∷ xs) =
    elim (cases_Bool (p (f x))) [
      | inl passes ↦ filter_here p (f x) (map f xs) passes ∙ ap (λ ys. f x ∷ ys) (filter_map_of p f xs) ∙ ap (map f) (sym (filter_here (λ z. p (f z)) x xs passes))
      | inr fails ↦ filter_gone p (f x) (map f xs) fails ∙ filter_map_of p f xs ∙ ap (map f) (sym (filter_gone (λ z. p (f z)) x xs fails))
    ]

pub count_map : {X Y : Type 0} (p : Y → Bool) (f : X → Y) (xs : List X) → count_by p (map f xs) ≡ count_by (λ x. p (f x)) xs
count_map p f xs =
    sym (length-filter p (map f xs)) ∙ ap length (filter_map_of p f xs) ∙ length-map f (filter (λ x. p (f x)) xs) ∙ length-filter (λ x. p (f x)) xs

pub map_map : {X Y Z : Type 0} (g : Y → Z) (f : X → Y) (xs : List X) → map g (map f xs) ≡ map (λ x. g (f x)) xs
map_map g f [] = refl
map_map g f (x ∷ xs) = ap (λ ys. g (f x) ∷ ys) (map_map g f xs)

pub map_same : {X Y : Type 0} (f g : X → Y) (xs : List X) → ((x : X) → Contains xs x → f x ≡ g x) → map f xs ≡ map g xs
map_same f g [] h = refl
map_same f g (x ∷ xs) h = ap (λ y. y ∷ map f xs) (h x (contains_here x xs)) ∙ ap (λ ys. g x ∷ ys) (map_same f g xs (λ y k. h y (contains_there x xs y k)))

pub map_itself : {X : Type 0} (f : X → X) (xs : List X) → ((x : X) → f x ≡ x) → map f xs ≡ xs
map_itself f [] h = refl
map_itself f (x ∷ xs) h = ap (λ y. y ∷ map f xs) (h x) ∙ ap (λ ys. x ∷ ys) (map_itself f xs h)

-- whether some member passes
pub any_from_member : {X : Type 0} (p : X → Bool) (xs : List X) (x : X) → Contains xs x → p x ≡ true → list_any p xs ≡ true
any_from_member p [] x h t = absurd (contains_nil x h)
any_from_member p (y ∷ xs) x h t =
    elim (contains_cases y xs x h) [
      | inl e ↦ or_left (p y) (list_any p xs) (ap p e ∙ t)
      | inr r ↦ or_right (p y) (list_any p xs) (any_from_member p xs x r t)
    ]

pub member_from_any : {X : Type 0} (p : X → Bool) (xs : List X) → list_any p xs ≡ true → (x : X) × Contains xs x × (p x ≡ true)
member_from_any p [] t = absurd (true≢false (sym t))
member_from_any p (y ∷ xs) t =
    elim (or_cases (p y) (list_any p xs) t) [
      | inl h ↦ (y, contains_here y xs, h)
      | inr r ↦ let k = member_from_any p xs r in (k.0, contains_there y xs k.0 k.1, k.2)
    ]

pub none_from_any : {X : Type 0} (p : X → Bool) (xs : List X) (x : X) → list_any p xs ≡ false → Contains xs x → p x ≡ false
none_from_any p [] x f h = absurd (contains_nil x h)
none_from_any p (y ∷ xs) x f h =
    elim (contains_cases y xs x h) [
      | inl e ↦ ap p (sym e) ∙ (or_parts (p y) (list_any p xs) f).0
      | inr r ↦ none_from_any p xs x (or_parts (p y) (list_any p xs) f).1 r
    ]

pub any_from_none : {X : Type 0} (p : X → Bool) (xs : List X) → ((x : X) → Contains xs x → p x ≡ false) → list_any p xs ≡ false
any_from_none p [] h = refl
any_from_none p (x ∷ xs) h = or_from (p x) (list_any p xs) (h x (contains_here x xs)) (any_from_none p xs (λ y k. h y (contains_there x xs y k)))

-- two lists of numbers made from one list are compared place by place
all_zip_map : {X : Type 0} (f g : X → ℕ) (xs : List X) → ((x : X) → Contains xs x → f x ≤ g x) → AllZip ◌≤◌ (map f xs) (map g xs)
all_zip_map f g [] h = tt
all_zip_map f g (x ∷ xs) h = (h x (contains_here x xs), all_zip_map f g xs (λ y k. h y (contains_there x xs y k)))

pub no_smaller_map : {X : Type 0} (f g : X → ℕ) (xs : List X) → ((x : X) → Contains xs x → f x ≤ g x) → NoSmaller (map f xs) (map g xs)
no_smaller_map f g xs h = no_smaller (map f xs) (map g xs) (all_zip_map f g xs h)

-- members of a list that is made piece by piece
pub contains_flat_map : {X Y : Type 0} (f : X → List Y) (xs : List X) (y : Y) → Contains (flat_map f xs) y → (x : X) × Contains xs x × Contains (f x) y
contains_flat_map f [] y h = absurd (contains_nil y h)
contains_flat_map f (x ∷ xs) y h =
    elim (Contains-append_cases (f x) (flat_map f xs) y h) [
      | inl here ↦ (x, contains_here x xs, here)
      | inr r ↦ let k = contains_flat_map f xs y r in (k.0, contains_there x xs k.0 k.1, k.2)
    ]
