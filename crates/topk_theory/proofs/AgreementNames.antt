-- The members of a list, each where it comes first.
use Rattle.std.proofs.Common.{◌≡◌, ◌≢◌, ℕ, ◌⊎◌, inl, inr, Bool, true, false, cond, ◌==◌, ◌||◌, List, [], ◌∷◌, ◌++◌, AllPairs, Contains, sym, ap, subst, ◌∙◌, arith, append_assoc, append-nil, eqb-true, eq-eqb}
use Rattle.std.specs.List.{list_any}
use Rattle.std.proofs.lemmas.Bool.{cases_Bool, or_cases, or_right, true≢false}
use Rattle.std.proofs.lemmas.List.Kept.{AllPairs-cons}
use Rattle.std.proofs.lemmas.List.Elements.{Contains-append_left, Contains-push, Contains-push_cases}
use Rattle.std.proofs.lemmas.List.Folds.{list_any-append}
use Rattle.std.proofs.Math.Bool.{or-false}
use Rattle.topk_theory.specs.Transcript.{each_once_after, each_once}
use Rattle.topk_theory.proofs.AgreementLists.{contains_nil, contains_here, contains_there, contains_cases, all_from_members}

-- whether a list has a number, and that the test tells it
abbrev pub has : ℕ → List ℕ → Bool
has x xs = list_any (λ y. y == x) xs

pub has_contains : (x : ℕ) (xs : List ℕ) → has x xs ≡ true → Contains xs x
has_contains x [] e = absurd (true≢false (sym e))
has_contains x (y ∷ xs) e =
    elim (or_cases (y == x) (has x xs) e) [
      | inl t ↦ subst (λ z. Contains (y ∷ xs) z) (eqb-true y x t) (contains_here y xs)
      | inr t ↦ contains_there y xs x (has_contains x xs t)
    ]

pub contains_has : (x : ℕ) (xs : List ℕ) → Contains xs x → has x xs ≡ true
contains_has x [] h = absurd (contains_nil x h)
contains_has x (y ∷ xs) h =
    elim (contains_cases y xs x h) [
      | inl e ↦ ap (λ b. b || has x xs) (eq-eqb y x e)
      | inr t ↦ or_right (y == x) (has x xs) (contains_has x xs t)
    ]

pub has_not : (x : ℕ) (xs : List ℕ) → has x xs ≡ false → ¬ Contains xs x
has_not x xs e = λ h. true≢false (sym (contains_has x xs h) ∙ e)

pub not_has : (x : ℕ) (xs : List ℕ) → (¬ Contains xs x) → has x xs ≡ false
not_has x xs n = elim (cases_Bool (has x xs)) [ inl t ↦ absurd (n (has_contains x xs t)) | inr f ↦ f ]

-- one step of the definition
after_has : (before : List ℕ) (x : ℕ) (xs : List ℕ) → has x before ≡ true → each_once_after before (x ∷ xs) ≡ each_once_after before xs
after_has before x xs e = ap (λ b. cond b (each_once_after before xs) (x ∷ each_once_after (before ++ x ∷ []) xs)) e

after_new : (before : List ℕ) (x : ℕ) (xs : List ℕ) → has x before ≡ false → each_once_after before (x ∷ xs) ≡ x ∷ each_once_after (before ++ x ∷ []) xs
after_new before x xs e = ap (λ b. cond b (each_once_after before xs) (x ∷ each_once_after (before ++ x ∷ []) xs)) e

-- what it keeps is of the list, and isn't of those before
each_within : (before xs : List ℕ) (z : ℕ) → Contains (each_once_after before xs) z → Contains xs z × (¬ Contains before z)
each_within before [] z h = absurd (contains_nil z h)
each_within before (x ∷ xs) z h =
    elim (cases_Bool (has x before)) [
      | inl t ↦ let r = each_within before xs z (subst (λ ys. Contains ys z) (after_has before x xs t) h) in (contains_there x xs z r.0, r.1)
      | inr f ↦ elim (contains_cases x (each_once_after (before ++ x ∷ []) xs) z (subst (λ ys. Contains ys z) (after_new before x xs f) h)) [
        | inl e ↦ (subst (λ w. Contains (x ∷ xs) w) e (contains_here x xs), subst (λ w. ¬ Contains before w) e (has_not x before f))
        | inr t ↦ let r = each_within (before ++ x ∷ []) xs z t in (contains_there x xs z r.0, λ b. r.1 (Contains-append_left before (x ∷ []) z b))
      ]
    ]

-- each member of the list is kept or stood before
each_complete : (before xs : List ℕ) (z : ℕ) → Contains xs z → Contains before z ⊎ Contains (each_once_after before xs) z
each_complete before [] z h = absurd (contains_nil z h)
each_complete before (x ∷ xs) z h =
    elim (cases_Bool (has x before)) [
      | inl t ↦ elim (contains_cases x xs z h) [
        | inl e ↦ inl (subst (λ w. Contains before w) e (has_contains x before t))
        | inr r ↦ subst (λ ys. Contains before z ⊎ Contains ys z) (sym (after_has before x xs t)) (each_complete before xs z r)
      ]
      | inr f ↦ subst (λ ys. Contains before z ⊎ Contains ys z) (sym (after_new before x xs f)) (elim (contains_cases x xs z h) [
        | inl e ↦ inr (subst (λ w. Contains (x ∷ each_once_after (before ++ x ∷ []) xs) w) e (contains_here x (each_once_after (before ++ x ∷ []) xs)))
        | inr r ↦ elim (each_complete (before ++ x ∷ []) xs z r) [
          | inl b ↦ elim (Contains-push_cases before x z b) [
            | inl c ↦ inl c
            | inr e ↦ inr (subst (λ w. Contains (x ∷ each_once_after (before ++ x ∷ []) xs) w) e (contains_here x (each_once_after (before ++ x ∷ []) xs)))
          ]
          | inr k ↦ inr (contains_there x (each_once_after (before ++ x ∷ []) xs) z k)
        ]
      ])
    ]

each_distinct : (before xs : List ℕ) → AllPairs (λ (a : ℕ) (b : ℕ). a ≢ b) (each_once_after before xs)
each_distinct before [] = λ i j d l m. absurd (omega arith)
each_distinct before (x ∷ xs) =
    elim (cases_Bool (has x before)) [
      | inl t ↦ subst (λ ys. AllPairs (λ (a : ℕ) (b : ℕ). a ≢ b) ys) (sym (after_has before x xs t)) (each_distinct before xs)
      | inr f ↦ subst (λ ys. AllPairs (λ (a : ℕ) (b : ℕ). a ≢ b) ys) (sym (after_new before x xs f))
          (AllPairs-cons (λ (a : ℕ) (b : ℕ). a ≢ b) x (each_once_after (before ++ x ∷ []) xs)
          (all_from_members (λ b. x ≢ b) (each_once_after (before ++ x ∷ []) xs)
          (λ z h. λ e. (each_within (before ++ x ∷ []) xs z h).1 (subst (λ w. Contains (before ++ x ∷ []) w) e (Contains-push before x))))
          (each_distinct (before ++ x ∷ []) xs))
    ]

pub each_once_within : (xs : List ℕ) (x : ℕ) → Contains (each_once xs) x → Contains xs x
each_once_within xs x h = (each_within [] xs x h).0

pub each_once_complete : (xs : List ℕ) (x : ℕ) → Contains xs x → Contains (each_once xs) x
each_once_complete xs x h = elim (each_complete [] xs x h) [ inl b ↦ absurd (contains_nil x b) | inr k ↦ k ]

pub each_once_distinct : (xs : List ℕ) → AllPairs (λ (a : ℕ) (b : ℕ). a ≢ b) (each_once xs)
each_once_distinct xs = each_distinct [] xs

-- one more member
after_push : (before xs : List ℕ) (x : ℕ)
    → each_once_after before (xs ++ x ∷ []) ≡ each_once_after before xs ++ cond (has x (before ++ each_once_after before xs)) [] (x ∷ [])
after_push before [] x = ap (λ b. cond (has x b) [] (x ∷ [])) (sym (append-nil before))
after_push before (y ∷ xs) x =
    elim (cases_Bool (has y before)) [
      | inl t ↦ after_has before y (xs ++ x ∷ []) t ∙ after_push before xs x ∙ ap (λ ys. ys ++ cond (has x (before ++ ys)) [] (x ∷ [])) (sym (after_has before y xs t))
      | inr f ↦ after_new before y (xs ++ x ∷ []) f ∙ ap (λ ys. y ∷ ys) (after_push (before ++ y ∷ []) xs x)
          ∙ ap (λ b. (y ∷ each_once_after (before ++ y ∷ []) xs) ++ cond (has x b) [] (x ∷ [])) (append_assoc before (y ∷ []) (each_once_after (before ++ y ∷ []) xs))
          ∙ ap (λ ys. ys ++ cond (has x (before ++ ys)) [] (x ∷ [])) (sym (after_new before y xs f))
    ]

pub each_once_push_old : (xs : List ℕ) (x : ℕ) → Contains (each_once xs) x → each_once (xs ++ x ∷ []) ≡ each_once xs
each_once_push_old xs x h = after_push [] xs x ∙ ap (λ b. each_once xs ++ cond b [] (x ∷ [])) (contains_has x (each_once xs) h) ∙ append-nil (each_once xs)

pub each_once_push_new : (xs : List ℕ) (x : ℕ) → (¬ Contains (each_once xs) x) → each_once (xs ++ x ∷ []) ≡ each_once xs ++ x ∷ []
each_once_push_new xs x n = after_push [] xs x ∙ ap (λ b. each_once xs ++ cond b [] (x ∷ [])) (not_has x (each_once xs) n)

-- one member more at the end
pub has_push : (x : ℕ) (xs : List ℕ) (y : ℕ) → has x (xs ++ y ∷ []) ≡ (has x xs || (y == x))
has_push x xs y = list_any-append (λ z. z == x) xs (y ∷ []) ∙ ap (λ b. has x xs || b) (or-false (y == x))
