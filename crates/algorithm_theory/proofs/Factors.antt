-- What the factor of a threshold over a least number says.
use Rattle.std.proofs.Common.{◌≡◌, inl, inr, ℕ, ◌*◌, ◌<◌, ◌≤◌, ◌==◌, Bool, false, cond, min, nat_le, List, [], ◌∷◌, length, Contains, sym, subst, arith, leb-true, eqb-true}
use Rattle.std.proofs.lemmas.Bool.{cases_Bool, cases_lt, leb-false}
use Rattle.std.proofs.Math.Nat.{mul-le-mul_left, mul_comm}
use Rattle.monotone_fn.specs.Value.{least, IsLeast}
use Rattle.topk_theory.proofs.AgreementLists.{contains_here, contains_there, contains_cases, contains_nil, all_from_members, member_of_all}
use Rattle.algorithm_theory.specs.Within.{Factor}
use Rattle.algorithm_theory.specs.Guarantee.{exact_factor, no_factor, factor_over}

-- ---- the least of numbers is one of them, and none is less
one_is_least : (x : ℕ) → IsLeast (x ∷ []) x
one_is_least x = record {
  among = contains_here x [];
  bounds = all_from_members (λ n. x ≤ n) (x ∷ []) (λ number c. elim (contains_cases x [] number c) [ inl e ↦ omega arith | inr r ↦ absurd (contains_nil number r) ]);
}

more_is_least : (x : ℕ) (xs : List ℕ) (v : ℕ) → IsLeast xs v → IsLeast (x ∷ xs) (min x v)
more_is_least x xs v h = record {
  among = elim (cases_lt x v) [
    | inl less ↦ (let e : x ≡ min x v = omega arith in subst (λ z. Contains (x ∷ xs) z) e (contains_here x xs))
    | inr le ↦ (let e : v ≡ min x v = omega arith in subst (λ z. Contains (x ∷ xs) z) e (contains_there x xs v h.among))
  ];
  bounds = all_from_members (λ n. min x v ≤ n) (x ∷ xs) (λ number c. elim (contains_cases x xs number c) [
    | inl e ↦ omega arith
    | inr r ↦ (let le : v ≤ number = member_of_all (λ n. v ≤ n) xs number h.bounds r in omega arith)
  ]);
}

least_is : (x : ℕ) (xs : List ℕ) → IsLeast (x ∷ xs) (least (x ∷ xs))
least_is x [] = one_is_least x
least_is x (y ∷ xs) = more_is_least x (y ∷ xs) (least (y ∷ xs)) (least_is y xs)

pub least_of_some : (xs : List ℕ) → 0 < length xs → IsLeast xs (least xs)
least_of_some [] some = absurd (omega arith)
least_of_some (x ∷ xs) some = least_is x xs

-- ---- the factor
abbrev FactorHolds : (Factor → Type 0) → ℕ → ℕ → Bool → Bool → Type 0
FactorHolds P bound fewest reached none = P (cond reached exact_factor (cond none no_factor (record { p = bound; q = fewest })))

by_factor : (P : Factor → Type 0) (bound fewest : ℕ) → (bound ≤ fewest → P exact_factor) → (fewest ≡ 0 → P no_factor)
    → (fewest < bound → P (record { p = bound; q = fewest })) → P (factor_over bound fewest)
by_factor P bound fewest reaches zeros short =
    elim (cases_Bool (nat_le bound fewest)) [
      | inl t ↦ subst (λ b. FactorHolds P bound fewest b (fewest == 0)) (sym t) (reaches (leb-true bound fewest t))
      | inr f ↦ subst (λ b. FactorHolds P bound fewest b (fewest == 0)) (sym f) (elim (cases_Bool (fewest == 0)) [
        | inl t ↦ subst (λ b. FactorHolds P bound fewest false b) (sym t) (zeros (eqb-true fewest 0 t))
        | inr g ↦ subst (λ b. FactorHolds P bound fewest false b) (sym g) (short (leb-false bound fewest f))
      ])
    ]

-- it is at least 1
pub factor_fair : (bound fewest : ℕ) → (factor_over bound fewest).q ≤ (factor_over bound fewest).p
factor_fair bound fewest = by_factor (λ factor. factor.q ≤ factor.p) bound fewest (λ h. omega arith) (λ h. omega arith) (λ h. omega arith)

-- times it, each number that is no less than the fewest is at least the threshold
pub factor_reaches : (bound fewest number : ℕ) → fewest ≤ number → (factor_over bound fewest).q * bound ≤ (factor_over bound fewest).p * number
factor_reaches bound fewest number le =
    by_factor (λ factor. factor.q * bound ≤ factor.p * number) bound fewest (λ h. omega arith) (λ h. omega arith)
    (λ h. let over : bound * fewest ≤ bound * number = mul-le-mul_left bound le in
    let turned : fewest * bound ≡ bound * fewest = mul_comm fewest bound in omega arith)
