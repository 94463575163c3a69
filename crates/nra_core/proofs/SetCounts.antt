-- Counts over sets that are kept as tests: one member more or less, and one in place of another.
use Rattle.std.proofs.Common.{◌≡◌, ◌≢◌, inl, inr, ℕ, suc, ◌==◌, Bool, true, false, cond, not, ◌&&◌, ◌||◌, List, [], ◌∷◌, Contains, refl, sym, ap, ◌∙◌, arith}
use Rattle.std.specs.List.{count_by}
use Rattle.std.proofs.lemmas.Bool.{false≢true, eq-eqb, ne_eqb}
use Rattle.topk_theory.proofs.AgreementLists.{contains_nil, contains_cases, distinct_head, distinct_tail}
use Rattle.nra_core.specs.Late.{AreApart, with_one, without, exchanged}
use Rattle.topk_theory.proofs.Counts.{count_first, count_no, count_same, count_yes}

-- ---- one object more or less
pub count_one_more : (p q : ℕ → Bool) (xs : List ℕ) (y : ℕ) → AreApart xs → Contains xs y → p y ≡ false → q y ≡ true → ((x : ℕ) → y ≢ x → p x ≡ q x)
    → count_by q xs ≡ suc (count_by p xs)
count_one_more p q [] y apart c f t same = absurd (contains_nil y c)
count_one_more p q (x ∷ xs) y apart c f t same =
    elim (contains_cases x xs y c) [
      | inl e ↦ (
          let no : p x ≡ false = ap p e ∙ f in
          let yes : q x ≡ true = ap q e ∙ t in
          let rest : count_by p xs ≡ count_by q xs = count_same p q xs (λ z d. same z (λ s. distinct_head x xs z apart d (e ∙ s))) in
          omega (arith, rest, count_no p x xs no, count_yes q x xs yes))
      | inr d ↦ (
          let rest : count_by q xs ≡ suc (count_by p xs) = count_one_more p q xs y (distinct_tail x xs apart) d f t same in
          let here : cond {A = ℕ} (p x) 1 0 ≡ cond (q x) 1 0 = ap (λ b. cond b 1 0) (same x (λ s. distinct_head x xs y apart d (sym s))) in
          omega (arith, rest, here, count_first p x xs, count_first q x xs))
    ]

-- ---- sets as tests
pub with_itself : (is_in : ℕ → Bool) (object : ℕ) → with_one is_in object object ≡ true
with_itself is_in object = elim (is_in object) as (λ b. (b || (object == object)) ≡ true) [ true ↦ refl | false ↦ eq-eqb object object refl ]

pub with_other : (is_in : ℕ → Bool) (object other : ℕ) → object ≢ other → with_one is_in object other ≡ is_in other
with_other is_in object other apart = elim (is_in other) as (λ b. (b || (object == other)) ≡ b) [ true ↦ refl | false ↦ ne_eqb object other apart ]

pub without_itself : (is_in : ℕ → Bool) (object : ℕ) → without is_in object object ≡ false
without_itself is_in object = elim (is_in object) as (λ b. (b && not (object == object)) ≡ false) [ true ↦ ap not (eq-eqb object object refl) | false ↦ refl ]

pub without_other : (is_in : ℕ → Bool) (object other : ℕ) → object ≢ other → without is_in object other ≡ is_in other
without_other is_in object other apart = elim (is_in other) as (λ b. (b && not (object == other)) ≡ b) [ true ↦ ap not (ne_eqb object other apart) | false ↦ refl ]

-- an exchange keeps the size
pub count_exchanged : (is_in : ℕ → Bool) (xs : List ℕ) (leaves joins : ℕ) → AreApart xs → Contains xs leaves → is_in leaves ≡ true → Contains xs joins
    → is_in joins ≡ false → count_by (exchanged is_in leaves joins) xs ≡ count_by is_in xs
count_exchanged is_in xs leaves joins apart there t here f =
    let differ : leaves ≢ joins = λ e. false≢true (sym f ∙ ap is_in (sym e) ∙ t) in
    let less : count_by is_in xs ≡ suc (count_by (without is_in leaves) xs) = count_one_more (without is_in leaves) is_in xs leaves apart there (without_itself is_in leaves) t (λ x d. without_other is_in leaves x d) in
    let more : count_by (exchanged is_in leaves joins) xs ≡ suc (count_by (without is_in leaves) xs) =
    count_one_more (without is_in leaves) (exchanged is_in leaves joins) xs joins apart here (without_other is_in leaves joins differ ∙ f) (with_itself (without is_in leaves) joins) (λ x d. sym (with_other (without is_in leaves) joins x d)) in
    omega (arith, less, more)
