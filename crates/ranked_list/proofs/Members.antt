-- Members of lists of numbers, and how many there can be; and where a list ends.
use Rattle.std.proofs.Common.{◌≡◌, ◌<◌, ◌≤◌, inl, inr, ℕ, zero, suc, Bool, true, false, eqb, ◌||◌, List, [], ◌∷◌, ◌++◌, length, get_or, slice_get, None, refl, sym, ap, ◌∙◌, subst, ⊎_elim, arith, eq-eqb, eqb-true}
use Rattle.std.specs.Prelude.{nat_eq}
use Rattle.std.specs.Cmp.{nat_eq_equiv}
use Rattle.std.specs.List.{Contains, IsDistinct}
use Rattle.std.specs.Set.{is_member}
use Rattle.std.proofs.lemmas.List.{length_push}
use Rattle.std.proofs.lemmas.List.Folds.{list_any-append}
use Rattle.std.proofs.lemmas.Bool.{or_cases, or_left, or_right, cases_Bool, false≢true}
use Rattle.std.proofs.lemmas.Option.{slice_get_cases}
use Rattle.std.proofs.lemmas.Map.Keys.{IsDistinct-push}
use Rattle.std.proofs.lemmas.Map.Made.{length-le_from_is_member}

-- no member at a place: the list ends before it
pub past_end : {X : Type 0} (xs : List X) (i : ℕ) → slice_get xs i ≡ None → length xs ≤ i
past_end xs i none = elim (slice_get_cases xs i).1 [ inl found ↦ absurd cc | inr past ↦ past.0 ]

-- xs has no number that ys lacks
abbrev pub Within : List ℕ → List ℕ → Type 0
Within xs ys = (x : ℕ) → is_member nat_eq xs x ≡ true → is_member nat_eq ys x ≡ true

pub member_at : (xs : List ℕ) (k d : ℕ) → k < length xs → is_member nat_eq xs (get_or xs k d) ≡ true
member_at [] k d l = absurd (omega arith)
member_at (x ∷ xs) zero d l = or_left (eqb x x) _ (eq-eqb x x refl)
member_at (x ∷ xs) (suc k) d l = or_right (eqb (get_or xs k d) x) _ (member_at xs k d (omega arith))

pub member_from_contains : (xs : List ℕ) (x : ℕ) → Contains xs x → is_member nat_eq xs x ≡ true
member_from_contains xs x h = subst (λ y. is_member nat_eq xs y ≡ true) h.2 (member_at xs h.0 x h.1)

pub contains_from_member : (xs : List ℕ) (x : ℕ) → is_member nat_eq xs x ≡ true → Contains xs x
contains_from_member [] x h = absurd (false≢true h)
contains_from_member (y ∷ xs) x h =
    ⊎_elim
    (λ e. (0, omega arith, sym (eqb-true x y e)))
    (λ more. let rest = contains_from_member xs x more in (suc rest.0, omega (arith, rest.1), rest.2))
    (or_cases (eqb x y) (is_member nat_eq xs x) h)

pub member-push : (xs : List ℕ) (y x : ℕ) → is_member nat_eq (xs ++ y ∷ []) x ≡ (is_member nat_eq xs x || eqb x y)
member-push xs y x = list_any-append (eqb x) xs (y ∷ []) ∙ ap (λ b. is_member nat_eq xs x || b) (or_none (eqb x y))
  where
    or_none : (b : Bool) → (b || false) ≡ b
    or_none true = refl
    or_none false = refl

pub Within-push : (xs ys : List ℕ) (y : ℕ) → Within xs ys → is_member nat_eq ys y ≡ true → Within (xs ++ y ∷ []) ys
Within-push xs ys y within has x h =
    ⊎_elim (λ e. within x e) (λ e. subst (λ z. is_member nat_eq ys z ≡ true) (sym (eqb-true x y e)) has)
    (or_cases (is_member nat_eq xs x) (eqb x y) (sym (member-push xs y x) ∙ h))

-- numbers that differ, all of them in a list, are no more than it has
pub at_most : (xs ys : List ℕ) → IsDistinct eqb xs → Within xs ys → length xs ≤ length ys
at_most xs ys distinct within = length-le_from_is_member nat_eq_equiv xs ys distinct within

-- and fewer where the list has another
pub fewer : (xs ys : List ℕ) (y : ℕ) → IsDistinct eqb xs → Within xs ys → is_member nat_eq ys y ≡ true → is_member nat_eq xs y ≡ false → length xs < length ys
fewer xs ys y distinct within has lacks =
    let more = at_most (xs ++ y ∷ []) ys (IsDistinct-push nat_eq_equiv xs y distinct lacks) (Within-push xs ys y within has) in
    omega (arith, length_push xs y)

-- so where they are as many, each number of the list is among them
pub all_there : (xs ys : List ℕ) → IsDistinct eqb xs → Within xs ys → length xs ≡ length ys → Within ys xs
all_there xs ys distinct within same y has =
    ⊎_elim (λ e. e) (λ lacks. let few = fewer xs ys y distinct within has lacks in absurd (omega arith)) (cases_Bool (is_member nat_eq xs y))
