-- How far is fetched grows with the want, and never passes the count.
use Rattle.std.proofs.Common.{◌≡◌, ◌≤◌, ◌<◌, ◌+◌, ◌-◌, ◌*◌, ◌/◌, inl, inr, ℕ, cond, min, sym, subst, arith, le_trans}
use Rattle.std.proofs.Math.Nat.{div-mul-le_self, mul-le-mul_right}
use Rattle.std.proofs.lemmas.Nat.{le-div}
use Rattle.std.proofs.lemmas.Bool.Decides.{eqb_tells}
use Rattle.source_state.specs.Looking.{reach_of}
use Rattle.source_state.proofs.Lists.{eqb_other}

div_more : (a b k : ℕ) → 0 < k → a ≤ b → a / k ≤ b / k
div_more a b k pos le = le-div (a / k) b k pos (le_trans (div-mul-le_self a k) le)

min_more : (count p q a : ℕ) → p ≤ q → min count (p + a) ≤ min count (q + a)
min_more count p q a le = omega arith

min_left : (count p : ℕ) → min count p ≤ count
min_left count p = omega arith

-- the rows of whole pages down to a depth
abbrev whole_pages : ℕ → ℕ → ℕ
whole_pages want page = (want + page - 1) / page * page

pages_more : (w v page : ℕ) → 1 ≤ page → w ≤ v → whole_pages w page ≤ whole_pages v page
pages_more w v page some le = mul-le-mul_right page (div_more (w + page - 1) (v + page - 1) page (omega arith) (omega arith))

pub reach_more : (page ahead count w v : ℕ) → 1 ≤ page → w ≤ v → reach_of w page ahead count ≤ reach_of v page ahead count
reach_more page ahead count w v some le =
    elim (eqb_tells w 0) [
      | inl zeros ↦ subst (λ b. cond b 0 (min count (whole_pages w page + ahead * page)) ≤ reach_of v page ahead count) (sym zeros.0) (omega arith)
      | inr apart ↦
          let differ : w ≡ 0 → ⊥ = apart.1 in
          let positive : v ≡ 0 → ⊥ = λ e. differ (omega (arith, e)) in
          subst (λ b. cond b 0 (min count (whole_pages w page + ahead * page)) ≤ reach_of v page ahead count) (sym apart.0)
          (subst (λ b. min count (whole_pages w page + ahead * page) ≤ cond b 0 (min count (whole_pages v page + ahead * page))) (sym (eqb_other v 0 positive))
          (min_more count (whole_pages w page) (whole_pages v page) (ahead * page) (pages_more w v page some le)))
    ]

pub reach_within : (page ahead count w : ℕ) → reach_of w page ahead count ≤ count
reach_within page ahead count w =
    elim (eqb_tells w 0) [
      | inl zeros ↦ subst (λ b. cond b 0 (min count (whole_pages w page + ahead * page)) ≤ count) (sym zeros.0) (omega arith)
      | inr apart ↦ subst (λ b. cond b 0 (min count (whole_pages w page + ahead * page)) ≤ count) (sym apart.0) (min_left count (whole_pages w page + ahead * page))
    ]
