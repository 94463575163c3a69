-- Members of lists, fronts of lists, and what one more member changes.
use Rattle.std.proofs.Common.{◌≡◌, ◌≢◌, ℕ, zero, suc, ◌+◌, ◌<◌, ◌≤◌, ◌⊎◌, inl, inr, List, [], ◌∷◌, ◌++◌, length, map, take, drop, All, AllPairs, Contains, Option, Some, None, slice_get, slice_index_or, filter_map, refl, sym, ap, subst, ◌∙◌, arith, append_assoc, append-nil, length-append, take-append-drop, take_at, get_or}
use Rattle.std.specs.List.{AllZip, cons_option}
use Rattle.std.proofs.lemmas.List.{take_more}
use Rattle.std.proofs.lemmas.List.Elements.{filter_map-append, length_all_zip, AllZip-get_or, Contains-append_left}
use Rattle.std.proofs.lemmas.Option.{slice_get_within, get_or_from_slice_get}
use Rattle.std.proofs.lemmas.Bool.{cases_order}
use Rattle.monotone_fn.specs.Value.{NoSmaller}
use Rattle.topk_theory.specs.Transcript.{Begins}

-- members by the first and the rest
pub contains_nil : {X : Type 0} → (x : X) → Contains [] x → ⊥
contains_nil x h = omega (arith, h.1)

pub contains_here : {X : Type 0} → (x : X) (xs : List X) → Contains (x ∷ xs) x
contains_here x xs = (0, omega arith, refl)

pub contains_there : {X : Type 0} → (x : X) (xs : List X) (y : X) → Contains xs y → Contains (x ∷ xs) y
contains_there x xs y h = (suc h.0, omega (arith, h.1), h.2)

pub contains_at : {X : Type 0} → (xs : List X) (k : ℕ) (d : X) → k < length xs → Contains xs (slice_index_or xs k d)
contains_at [] k d l = absurd (omega arith)
contains_at (x ∷ xs) zero d l = contains_here x xs
contains_at (x ∷ xs) (suc k) d l = contains_there x xs _ (contains_at xs k d (omega arith))

contains_cases_at : {X : Type 0} → (x : X) (xs : List X) (y : X) (k : ℕ) → k < length (x ∷ xs) → slice_index_or (x ∷ xs) k y ≡ y → (x ≡ y) ⊎ Contains xs y
contains_cases_at x xs y zero l e = inl e
contains_cases_at x xs y (suc k) l e = inr (k, omega arith, e)

pub contains_cases : {X : Type 0} → (x : X) (xs : List X) (y : X) → Contains (x ∷ xs) y → (x ≡ y) ⊎ Contains xs y
contains_cases x xs y h = contains_cases_at x xs y h.0 h.1 h.2

pub contains_map : {X Y : Type 0} → (f : X → Y) (xs : List X) (x : X) → Contains xs x → Contains (map f xs) (f x)
contains_map f [] x h = absurd (contains_nil x h)
contains_map f (y ∷ xs) x h =
    elim (contains_cases y xs x h) [
      | inl e ↦ subst (λ z. Contains (f y ∷ map f xs) (f z)) e (contains_here (f y) (map f xs))
      | inr t ↦ contains_there (f y) (map f xs) (f x) (contains_map f xs x t)
    ]

pub contains_map_from : {X Y : Type 0} → (f : X → Y) (xs : List X) (y : Y) → Contains (map f xs) y → (x : X) × Contains xs x × (f x ≡ y)
contains_map_from f [] y h = absurd (contains_nil y h)
contains_map_from f (x ∷ xs) y h =
    elim (contains_cases (f x) (map f xs) y h) [
      | inl e ↦ (x, contains_here x xs, e)
      | inr t ↦ let r = contains_map_from f xs y t in (r.0, contains_there x xs r.0 r.1, r.2)
    ]

pub all_from_members : {X : Type 0} → (P : X → Type 0) (xs : List X) → ((x : X) → Contains xs x → P x) → All P xs
all_from_members P xs h k d l = h (slice_index_or xs k d) (contains_at xs k d l)

pub member_of_all : {X : Type 0} → (P : X → Type 0) (xs : List X) (x : X) → All P xs → Contains xs x → P x
member_of_all P xs x a h = subst P h.2 (a h.0 x h.1)

-- the member at the place behind a front
pub slice_get_behind : {X : Type 0} → (xs : List X) (y : X) (ys : List X) → slice_get (xs ++ y ∷ ys) (length xs) ≡ Some y
slice_get_behind [] y ys = refl
slice_get_behind (x ∷ xs) y ys = slice_get_behind xs y ys

pub slice_get_contains : {X : Type 0} → (xs : List X) (k : ℕ) (x : X) → slice_get xs k ≡ Some x → Contains xs x
slice_get_contains [] k x e = absurd (cc)
slice_get_contains (y ∷ xs) zero x e = let same : y ≡ x = cc in subst (λ z. Contains (y ∷ xs) z) same (contains_here y xs)
slice_get_contains (y ∷ xs) (suc k) x e = contains_there y xs x (slice_get_contains xs k x e)

pub slice_get_in_range : {X : Type 0} → (xs : List X) (k : ℕ) (x : X) → slice_get xs k ≡ Some x → k < length xs
slice_get_in_range [] k x e = absurd (cc)
slice_get_in_range (y ∷ xs) zero x e = omega arith
slice_get_in_range (y ∷ xs) (suc k) x e = let l : k < length xs = slice_get_in_range xs k x e in omega arith

pub slice_get_reads : {X : Type 0} → (xs : List X) (k : ℕ) (x d : X) → slice_get xs k ≡ Some x → slice_index_or xs k d ≡ x
slice_get_reads [] k x d e = absurd (cc)
slice_get_reads (y ∷ xs) zero x d e = cc
slice_get_reads (y ∷ xs) (suc k) x d e = slice_get_reads xs k x d e

pub slice_get_from_read : {X : Type 0} → (xs : List X) (k : ℕ) (d : X) → k < length xs → slice_get xs k ≡ Some (slice_index_or xs k d)
slice_get_from_read [] k d l = absurd (omega arith)
slice_get_from_read (y ∷ xs) zero d l = refl
slice_get_from_read (y ∷ xs) (suc k) d l = slice_get_from_read xs k d (omega arith)

-- a member of a front is one of the list
pub take_within : {X : Type 0} → (k : ℕ) (xs : List X) (x : X) → Contains (take k xs) x → Contains xs x
take_within k xs x c = subst (λ ys. Contains ys x) (take-append-drop k xs) (Contains-append_left (take k xs) (drop k xs) x c)

-- a front with the next member
pub front_next : {X : Type 0} → (xs : List X) (k : ℕ) (x : X) → slice_get xs k ≡ Some x → take k xs ++ x ∷ [] ≡ take (k + 1) xs
front_next xs k x e = sym (take_more xs k x (slice_get_in_range xs k x e) ∙ ap (λ y. take k xs ++ y ∷ []) (slice_get_reads xs k x x e))

-- a list begins with each front of itself
pub begins_with : {X : Type 0} → (front rest : List X) → Begins front (front ++ rest)
begins_with front rest = take_at front rest (length front) refl

pub begins_splits : {X : Type 0} → (front whole : List X) → Begins front whole → whole ≡ front ++ drop (length front) whole
begins_splits front whole h = sym (take-append-drop (length front) whole) ∙ ap (λ w. w ++ drop (length front) whole) h

pub begins_front : {X : Type 0} → (front more whole : List X) → Begins (front ++ more) whole → Begins front whole
begins_front front more whole h =
    let rest = drop (length (front ++ more)) whole in
    let e : whole ≡ front ++ (more ++ rest) = begins_splits (front ++ more) whole h ∙ append_assoc front more rest in
    rw e (begins_with front (more ++ rest))

pub begins_reads : {X : Type 0} → (front : List X) (y : X) (more whole : List X) → Begins (front ++ y ∷ more) whole → slice_get whole (length front) ≡ Some y
begins_reads front y more whole h =
    let rest = drop (length (front ++ y ∷ more)) whole in
    let e : whole ≡ front ++ (y ∷ (more ++ rest)) = begins_splits (front ++ y ∷ more) whole h ∙ append_assoc front (y ∷ more) rest in
    rw e (slice_get_behind front y (more ++ rest))

same_cons : {X : Type 0} → (a b : X) (xs ys : List X) → a ≡ b → xs ≡ ys → a ∷ xs ≡ b ∷ ys
same_cons a b xs ys p q = cc

pub begins_more : {X : Type 0} → (front whole : List X) (y : X) → Begins front whole → slice_get whole (length front) ≡ Some y → Begins (front ++ y ∷ []) whole
begins_more [] [] y h e = absurd (cc)
begins_more [] (w ∷ whole) y h e = let same : w ≡ y = cc in ap (λ z. z ∷ []) same
begins_more (f ∷ front) [] y h e = absurd (cc)
begins_more (f ∷ front) (w ∷ whole) y h e =
    let first : w ≡ f = cc in
    let rest : take (length front) whole ≡ front = cc in
    same_cons w f (take (length (front ++ y ∷ [])) whole) (front ++ y ∷ []) first (begins_more front whole y rest e)

-- a longer list has what a front of it has, and begins with what the front begins with
pub get_front : {X : Type 0} → (front rest : List X) (k : ℕ) → k < length front → slice_get (front ++ rest) k ≡ slice_get front k
get_front [] rest k l = absurd (omega arith)
get_front (y ∷ front) rest zero l = refl
get_front (y ∷ front) rest (suc k) l = get_front front rest k (omega arith)

pub slice_get_front : {X : Type 0} → (front rest : List X) (k : ℕ) (x : X) → slice_get front k ≡ Some x → slice_get (front ++ rest) k ≡ Some x
slice_get_front front rest k x e = get_front front rest k (slice_get_in_range front k x e) ∙ e

pub begins_get : {X : Type 0} → (front whole : List X) (k : ℕ) (x : X) → Begins front whole → slice_get front k ≡ Some x → slice_get whole k ≡ Some x
begins_get front whole k x h e = rw (begins_splits front whole h) (slice_get_front front (drop (length front) whole) k x e)

pub begins_trans : {X : Type 0} → (front middle whole : List X) → Begins front middle → Begins middle whole → Begins front whole
begins_trans front middle whole h k = begins_front front (drop (length front) middle) whole (subst (λ xs. Begins xs whole) (begins_splits front middle h) k)

-- what is no greater in each place is no smaller the other way round
pub no_smaller : (lesser greater : List ℕ) → AllZip ◌≤◌ lesser greater → NoSmaller lesser greater
no_smaller lesser greater h = record {
  same_length = length_all_zip ◌≤◌ lesser greater h;
  each = λ i l. AllZip-get_or ◌≤◌ lesser greater i 0 0 h l;
}

-- what a filter gives of one more member
pub filter_map_push : {X Y : Type 0} → (h : X → Option Y) (xs : List X) (x : X) → filter_map h (xs ++ x ∷ []) ≡ filter_map h xs ++ cons_option (h x) []
filter_map_push h xs x = filter_map-append h xs (x ∷ [])

pub filter_map_through : {X Y : Type 0} → (h : X → Option Y) (xs : List X) (x : X) (ys : List X)
    → filter_map h (xs ++ x ∷ ys) ≡ filter_map h xs ++ cons_option (h x) (filter_map h ys)
filter_map_through h xs x ys = filter_map-append h xs (x ∷ ys)

pub filter_map_push_some : {X Y : Type 0} → (h : X → Option Y) (xs : List X) (x : X) (y : Y) → h x ≡ Some y
    → filter_map h (xs ++ x ∷ []) ≡ filter_map h xs ++ y ∷ []
filter_map_push_some h xs x y e = filter_map_push h xs x ∙ ap (λ o. filter_map h xs ++ cons_option o []) e

pub filter_map_push_none : {X Y : Type 0} → (h : X → Option Y) (xs : List X) (x : X) → h x ≡ None → filter_map h (xs ++ x ∷ []) ≡ filter_map h xs
filter_map_push_none h xs x e = filter_map_push h xs x ∙ ap (λ o. filter_map h xs ++ cons_option o []) e ∙ append-nil (filter_map h xs)

-- numbers that differ from one another and stand in a list are no more than its members
pub contains_splits : {X : Type 0} → (xs : List X) (x : X) → Contains xs x → (front : List X) × (rest : List X) × (xs ≡ front ++ x ∷ rest)
contains_splits [] x h = absurd (contains_nil x h)
contains_splits (y ∷ xs) x h =
    elim (contains_cases y xs x h) [
      | inl e ↦ ([], xs, ap (λ z. z ∷ xs) e)
      | inr t ↦ let r = contains_splits xs x t in (y ∷ r.0, r.1, ap (λ z. y ∷ z) r.2)
    ]

pub contains_apart : (front : List ℕ) (x : ℕ) (rest : List ℕ) (y : ℕ) → Contains (front ++ x ∷ rest) y → x ≢ y → Contains (front ++ rest) y
contains_apart [] x rest y h apart = elim (contains_cases x rest y h) [ inl e ↦ absurd (apart e) | inr t ↦ t ]
contains_apart (z ∷ front) x rest y h apart =
    elim (contains_cases z (front ++ x ∷ rest) y h) [
      | inl e ↦ subst (λ w. Contains (z ∷ (front ++ rest)) w) e (contains_here z (front ++ rest))
      | inr t ↦ contains_there z (front ++ rest) y (contains_apart front x rest y t apart)
    ]

pub distinct_head : (x : ℕ) (xs : List ℕ) (y : ℕ) → AllPairs (λ (a : ℕ) (b : ℕ). a ≢ b) (x ∷ xs) → Contains xs y → x ≢ y
distinct_head x xs y d h = λ e. d 0 (suc h.0) y (omega arith) (omega (arith, h.1)) (e ∙ sym h.2)

pub distinct_tail : (x : ℕ) (xs : List ℕ) → AllPairs (λ (a : ℕ) (b : ℕ). a ≢ b) (x ∷ xs) → AllPairs (λ (a : ℕ) (b : ℕ). a ≢ b) xs
distinct_tail x xs d = λ i j e l m. d (suc i) (suc j) e (omega arith) (omega arith)

-- a number has one place among numbers that differ
pub one_place : (xs : List ℕ) (p q x : ℕ) → AllPairs (λ (a : ℕ) (b : ℕ). a ≢ b) xs → slice_get xs p ≡ Some x → slice_get xs q ≡ Some x → p ≡ q
one_place xs p q x apart at_p at_q =
    let in_p = slice_get_within xs p x at_p in
    let in_q = slice_get_within xs q x at_q in
    let same : get_or xs p x ≡ get_or xs q x = get_or_from_slice_get xs p x x at_p ∙ sym (get_or_from_slice_get xs q x x at_q) in
    elim (cases_order p q) [
      | inl e ↦ e
      | inr other ↦ elim other [ inl lt ↦ absurd (apart p q x lt in_q same) | inr gt ↦ absurd (apart q p x gt in_p (sym same)) ]
    ]

pub distinct_fits : (xs ys : List ℕ) → AllPairs (λ (a : ℕ) (b : ℕ). a ≢ b) xs → ((x : ℕ) → Contains xs x → Contains ys x) → length xs ≤ length ys
distinct_fits [] ys d within = omega arith
distinct_fits (x ∷ xs) ys d within =
    let split = contains_splits ys x (within x (contains_here x xs)) in
    let ih : length xs ≤ length (split.0 ++ split.1) =
    distinct_fits xs (split.0 ++ split.1) (distinct_tail x xs d)
    (λ y h. contains_apart split.0 x split.1 y (subst (λ z. Contains z y) split.2 (within y (contains_there x xs y h))) (distinct_head x xs y d h)) in
    let whole : length ys ≡ length (split.0 ++ x ∷ split.1) = ap length split.2 in
    omega (arith, ih, whole, length-append split.0 split.1, length-append split.0 (x ∷ split.1))
