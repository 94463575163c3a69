-- The depths are the least at which it stops, no deeper than the threshold algorithm, and its own where the factor is 1 or the early stop comes late.
use Rattle.std.proofs.Common.{◌≡◌, ◌⊎◌, inl, inr, ℕ, ◌+◌, ◌-◌, ◌*◌, ◌≤◌, ◌||◌, ◌&&◌, Bool, true, false, min, List, length, count_by, nat_le, leb-true, refl, sym, ap, ap₂, ◌∙◌, arith}
use Rattle.std.proofs.lemmas.Bool.{cases_lt, true≢false, le-leb}
use Rattle.std.proofs.lemmas.List.Sums.{count_by-le-length}
use Rattle.std.proofs.Math.Nat.{mul-le-mul, mul-le-mul_left}
use Rattle.ranked_list.specs.declared.row.Row.{Row}
use Rattle.monotone_fn.specs.Value.{IsMonotone}
use Rattle.topk_theory.specs.Aggregate.{objects_of, aggregate}
use Rattle.topk_theory.specs.Threshold.{IsAsked, objects_to, threshold_at, ta_stop, least_from, ta_depth}
use Rattle.topk_theory.proofs.Counts.{count_le}
use Rattle.topk_theory.proofs.Agreement.{objects_of_count}
use Rattle.topk_theory.proofs.ThresholdDepth.{least_from-start, least_from-end, least_from-passes, least_from-before, stops_at_last, rows_to_last}
use Rattle.topk_theory.proofs.ThresholdLaws.{least_depth}
use Rattle.algorithm_theory.specs.Within.{Factor}
use Rattle.algorithm_theory.specs.Nearby.{theta_stop, theta_depth, has_enough, early_stop, early_depth, enough_depth, IsLeastPassing}

-- ---- least depths
-- a test that passes at the last depth has a least depth at which it passes
least_passing : (stops : ℕ → Bool) (n : ℕ) (D : List (List Row)) → length (objects_of D) ≡ n → 1 ≤ n → stops n ≡ true
    → IsLeastPassing stops n (least_from stops (length (objects_of D) - 1) 1)
least_passing stops n D count some passes =
    let more : ℕ = length (objects_of D) - 1 in
    let last : 1 + more ≡ n = omega arith in
    record {
      from_one = least_from-start stops more 1;
      within = omega (arith, least_from-end stops more 1);
      stops_there = least_from-passes stops more 1 (ap stops last ∙ passes);
      least = λ other from below. least_from-before stops more 1 other from below;
    }

-- it is no greater than another depth at which the test passes
least_le : (stops : ℕ → Bool) (n depth other : ℕ) → IsLeastPassing stops n depth → 1 ≤ other → stops other ≡ true → depth ≤ other
least_le stops n depth other h one passes =
    elim (cases_lt other depth) [
      | inl less ↦ absurd (true≢false (sym passes ∙ h.least other one less))
      | inr le ↦ le
    ]

-- tests that pass at the same depths have the same least depth
pub least_same : (one_stops other_stops : ℕ → Bool) (n one other : ℕ) → IsLeastPassing one_stops n one → IsLeastPassing other_stops n other
    → ((depth : ℕ) → one_stops depth ≡ other_stops depth) → one ≡ other
least_same one_stops other_stops n one other h g same =
    let up : one ≤ other = least_le one_stops n one other h g.from_one (same other ∙ g.stops_there) in
    let down : other ≤ one = least_le other_stops n other one g h.from_one (sym (same one) ∙ h.stops_there) in
    omega arith

-- ---- within a factor
-- where the threshold algorithm stops, one within a factor does
ta_stops_theta : (V : List ℕ → ℕ) (k : ℕ) (factor : Factor) (D : List (List Row)) (depth : ℕ) → factor.q ≤ factor.p → ta_stop V k D depth ≡ true
    → theta_stop V k factor D depth ≡ true
ta_stops_theta V k factor D depth fair stops =
    let bound : ℕ = threshold_at V D depth in
    let reaches : ℕ → Bool = λ object. nat_le bound (aggregate V D object) in
    let near : ℕ → Bool = λ object. nat_le (factor.q * bound) (factor.p * aggregate V D object) in
    let more : count_by reaches (objects_to D depth) ≤ count_by near (objects_to D depth) = count_le reaches near (objects_to D depth) (λ o c t.
    le-leb (factor.q * bound) (factor.p * aggregate V D o) (mul-le-mul fair (leb-true bound (aggregate V D o) t))) in
    let enough : k ≤ count_by reaches (objects_to D depth) = leb-true k (count_by reaches (objects_to D depth)) stops in
    le-leb k (count_by near (objects_to D depth)) (omega arith)

pub theta_is_least : (V : List ℕ → ℕ) (k n : ℕ) (factor : Factor) (D : List (List Row)) → IsMonotone V → IsAsked k n D → factor.q ≤ factor.p
    → IsLeastPassing (theta_stop V k factor D) n (theta_depth V k factor D)
theta_is_least V k n factor D monotone asked fair =
    let positive = asked.positive in
    let fits = asked.fits in
    least_passing (theta_stop V k factor D) n D (objects_of_count n D asked.table asked.lists) (omega arith)
    (ta_stops_theta V k factor D n fair (stops_at_last V k n D monotone asked.table asked.lists asked.fits))

pub theta_no_deeper : (V : List ℕ → ℕ) (k n : ℕ) (factor : Factor) (D : List (List Row)) → IsMonotone V → IsAsked k n D → factor.q ≤ factor.p
    → theta_depth V k factor D ≤ ta_depth V k D
theta_no_deeper V k n factor D monotone asked fair =
    let own = least_depth V k n D monotone asked in
    least_le (theta_stop V k factor D) n (theta_depth V k factor D) (ta_depth V k D) (theta_is_least V k n factor D monotone asked fair) own.from_one
    (ta_stops_theta V k factor D (ta_depth V k D) fair own.stops)

-- within the factor 1 it stops where the threshold algorithm does
times_le : (p a b : ℕ) → 1 ≤ p → p * a ≤ p * b → a ≤ b
times_le p a b positive h =
    elim (cases_lt b a) [
      | inr le ↦ le
      | inl less ↦
          let more : p * (b + 1) ≤ p * a = mul-le-mul_left p (omega arith) in
          let spread : p * (b + 1) ≡ p * b + p = grind arith in
          absurd (omega arith)
    ]

theta_stops_ta : (V : List ℕ → ℕ) (k : ℕ) (factor : Factor) (D : List (List Row)) (depth : ℕ) → 1 ≤ factor.p → factor.q ≡ factor.p
    → theta_stop V k factor D depth ≡ true → ta_stop V k D depth ≡ true
theta_stops_ta V k factor D depth positive one stops =
    let bound : ℕ = threshold_at V D depth in
    let reaches : ℕ → Bool = λ object. nat_le bound (aggregate V D object) in
    let near : ℕ → Bool = λ object. nat_le (factor.q * bound) (factor.p * aggregate V D object) in
    let more : count_by near (objects_to D depth) ≤ count_by reaches (objects_to D depth) = count_le near reaches (objects_to D depth) (λ o c t.
    let le : factor.q * bound ≤ factor.p * aggregate V D o = leb-true (factor.q * bound) (factor.p * aggregate V D o) t in
    let same : factor.q * bound ≡ factor.p * bound = ap (λ f. f * bound) one in
    le-leb bound (aggregate V D o) (times_le factor.p bound (aggregate V D o) positive (omega arith))) in
    let enough : k ≤ count_by near (objects_to D depth) = leb-true k (count_by near (objects_to D depth)) stops in
    le-leb k (count_by reaches (objects_to D depth)) (omega arith)

pub theta_is_ta : (V : List ℕ → ℕ) (k n : ℕ) (factor : Factor) (D : List (List Row)) → IsMonotone V → IsAsked k n D → 1 ≤ factor.p → factor.q ≡ factor.p
    → theta_depth V k factor D ≡ ta_depth V k D
theta_is_ta V k n factor D monotone asked positive one =
    let fair : factor.q ≤ factor.p = omega arith in
    let own = theta_is_least V k n factor D monotone asked fair in
    let ta = least_depth V k n D monotone asked in
    let up : theta_depth V k factor D ≤ ta_depth V k D = theta_no_deeper V k n factor D monotone asked fair in
    let down : ta_depth V k D ≤ theta_depth V k factor D =
    least_le (ta_stop V k D) n (ta_depth V k D) (theta_depth V k factor D) (record { from_one = ta.from_one; within = ta.within; stops_there = ta.stops; least = ta.least }) own.from_one
    (theta_stops_ta V k factor D (theta_depth V k factor D) positive one own.stops_there) in
    omega arith

-- where it stops, at least k objects stand
theta_enough : (V : List ℕ → ℕ) (k : ℕ) (factor : Factor) (D : List (List Row)) (depth : ℕ) → theta_stop V k factor D depth ≡ true → k ≤ length (objects_to D depth)
theta_enough V k factor D depth stops =
    let near : ℕ → Bool = λ object. nat_le (factor.q * threshold_at V D depth) (factor.p * aggregate V D object) in
    let enough : k ≤ count_by near (objects_to D depth) = leb-true k (count_by near (objects_to D depth)) stops in
    let few : count_by near (objects_to D depth) ≤ length (objects_to D depth) = count_by-le-length near (objects_to D depth) in
    omega arith

-- ---- early
ta_enough : (V : List ℕ → ℕ) (k : ℕ) (D : List (List Row)) (depth : ℕ) → ta_stop V k D depth ≡ true → k ≤ length (objects_to D depth)
ta_enough V k D depth stops =
    let reaches : ℕ → Bool = λ object. nat_le (threshold_at V D depth) (aggregate V D object) in
    let enough : k ≤ count_by reaches (objects_to D depth) = leb-true k (count_by reaches (objects_to D depth)) stops in
    let few : count_by reaches (objects_to D depth) ≤ length (objects_to D depth) = count_by-le-length reaches (objects_to D depth) in
    omega arith

-- why it stops
or_cases : (a b : Bool) → (a || b) ≡ true → (a ≡ true) ⊎ (b ≡ true)
or_cases true b h = inl refl
or_cases false b h = inr h

or_first : (a b : Bool) → a ≡ true → (a || b) ≡ true
or_first a b h = ap (λ c. c || b) h

or_second : (a b : Bool) → b ≡ true → (a || b) ≡ true
or_second true b h = refl
or_second false b h = h

and_parts : (a b : Bool) → (a && b) ≡ true → (a ≡ true) × (b ≡ true)
and_parts true b h = (refl, h)
and_parts false b h = absurd (true≢false (sym h))

both : (a b : Bool) → a ≡ true → b ≡ true → (a && b) ≡ true
both a b h g = ap₂ (λ x y. x && y) h g

pub early_why : (V : List ℕ → ℕ) (k from : ℕ) (D : List (List Row)) (depth : ℕ) → early_stop V k from D depth ≡ true
    → (ta_stop V k D depth ≡ true) ⊎ ((from ≤ depth) × (has_enough k D depth ≡ true))
early_why V k from D depth stops =
    elim (or_cases (ta_stop V k D depth) (nat_le from depth && has_enough k D depth) stops) [
      | inl ta ↦ inl ta
      | inr late ↦ let parts = and_parts (nat_le from depth) (has_enough k D depth) late in inr (leb-true from depth parts.0, parts.1)
    ]

ta_stops_early : (V : List ℕ → ℕ) (k from : ℕ) (D : List (List Row)) (depth : ℕ) → ta_stop V k D depth ≡ true → early_stop V k from D depth ≡ true
ta_stops_early V k from D depth stops = or_first (ta_stop V k D depth) (nat_le from depth && has_enough k D depth) stops

enough_stops_early : (V : List ℕ → ℕ) (k from : ℕ) (D : List (List Row)) (depth : ℕ) → from ≤ depth → has_enough k D depth ≡ true → early_stop V k from D depth ≡ true
enough_stops_early V k from D depth late enough =
    or_second (ta_stop V k D depth) (nat_le from depth && has_enough k D depth) (both (nat_le from depth) (has_enough k D depth) (le-leb from depth late) enough)

pub early_is_least : (V : List ℕ → ℕ) (k n from : ℕ) (D : List (List Row)) → IsMonotone V → IsAsked k n D
    → IsLeastPassing (early_stop V k from D) n (early_depth V k from D)
early_is_least V k n from D monotone asked =
    let positive = asked.positive in
    let fits = asked.fits in
    least_passing (early_stop V k from D) n D (objects_of_count n D asked.table asked.lists) (omega arith)
    (ta_stops_early V k from D n (stops_at_last V k n D monotone asked.table asked.lists asked.fits))

pub early_no_deeper : (V : List ℕ → ℕ) (k n from : ℕ) (D : List (List Row)) → IsMonotone V → IsAsked k n D → early_depth V k from D ≤ ta_depth V k D
early_no_deeper V k n from D monotone asked =
    let own = least_depth V k n D monotone asked in
    least_le (early_stop V k from D) n (early_depth V k from D) (ta_depth V k D) (early_is_least V k n from D monotone asked) own.from_one
    (ta_stops_early V k from D (ta_depth V k D) own.stops)

-- a depth at which the threshold algorithm stops is no less than its own
ta_le : (V : List ℕ → ℕ) (k n depth : ℕ) (D : List (List Row)) → IsMonotone V → IsAsked k n D → 1 ≤ depth → ta_stop V k D depth ≡ true → ta_depth V k D ≤ depth
ta_le V k n depth D monotone asked one stops =
    let ta = least_depth V k n D monotone asked in
    least_le (ta_stop V k D) n (ta_depth V k D) depth (record { from_one = ta.from_one; within = ta.within; stops_there = ta.stops; least = ta.least }) one stops

-- one that may stop early only from the threshold algorithm's depth on stops there
pub late_is_ta : (V : List ℕ → ℕ) (k n from : ℕ) (D : List (List Row)) → IsMonotone V → IsAsked k n D → ta_depth V k D ≤ from → early_depth V k from D ≡ ta_depth V k D
late_is_ta V k n from D monotone asked late =
    let own = early_is_least V k n from D monotone asked in
    let up : early_depth V k from D ≤ ta_depth V k D = early_no_deeper V k n from D monotone asked in
    let down : ta_depth V k D ≤ early_depth V k from D = elim (early_why V k from D (early_depth V k from D) own.stops_there) [
      | inl ta ↦ ta_le V k n (early_depth V k from D) D monotone asked own.from_one ta
      | inr enough ↦ (let there = enough.0 in omega arith)
    ] in
    omega arith

-- the depth is the lesser of the threshold algorithm's and the least from the given one on at which at least k objects were seen
enough_least : (k from : ℕ) (D : List (List Row)) (depth : ℕ) → from ≤ depth → has_enough k D depth ≡ true → enough_depth k from D ≤ depth
enough_least k from D depth late enough =
    elim (cases_lt depth (enough_depth k from D)) [
      | inl less ↦ absurd (true≢false (sym enough ∙ least_from-before (has_enough k D) (length (objects_of D) - from) from depth late less))
      | inr le ↦ le
    ]

early_up : (V : List ℕ → ℕ) (k n from : ℕ) (D : List (List Row)) → IsMonotone V → IsAsked k n D → 1 ≤ from → early_depth V k from D ≤ enough_depth k from D
early_up V k n from D monotone asked one =
    let own = early_is_least V k n from D monotone asked in
    let within = own.within in
    let count : length (objects_of D) ≡ n = objects_of_count n D asked.table asked.lists in
    let start : from ≤ enough_depth k from D = least_from-start (has_enough k D) (length (objects_of D) - from) from in
    elim (cases_lt n from) [
      | inl past ↦ omega arith
      | inr reached ↦
          let last : from + (length (objects_of D) - from) ≡ n = omega arith in
          let fits = asked.fits in
          let all : length (objects_to D n) ≡ n = ap length (rows_to_last n D asked.table asked.lists) ∙ count in
          let enough : has_enough k D n ≡ true = le-leb k (length (objects_to D n)) (omega arith) in
          least_le (early_stop V k from D) n (early_depth V k from D) (enough_depth k from D) own (omega arith)
          (enough_stops_early V k from D (enough_depth k from D) start (least_from-passes (has_enough k D) (length (objects_of D) - from) from (ap (has_enough k D) last ∙ enough)))
    ]

is_min : (e t s : ℕ) → e ≤ t → e ≤ s → (t ≤ e) ⊎ (s ≤ e) → e ≡ min t s
is_min e t s up late (inl h) = omega arith
is_min e t s up late (inr h) = omega arith

pub early_is_lesser : (V : List ℕ → ℕ) (k n from : ℕ) (D : List (List Row)) → IsMonotone V → IsAsked k n D → 1 ≤ from
    → early_depth V k from D ≡ min (ta_depth V k D) (enough_depth k from D)
early_is_lesser V k n from D monotone asked one =
    let own = early_is_least V k n from D monotone asked in
    is_min (early_depth V k from D) (ta_depth V k D) (enough_depth k from D) (early_no_deeper V k n from D monotone asked) (early_up V k n from D monotone asked one)
    (elim (early_why V k from D (early_depth V k from D) own.stops_there) [
      | inl ta ↦ inl (ta_le V k n (early_depth V k from D) D monotone asked own.from_one ta)
      | inr enough ↦ inr (enough_least k from D (early_depth V k from D) enough.0 enough.1)
    ])

-- ---- a depth at which either stops: at least k objects stand down to it
pub record IsDepth (k n : ℕ) (D : List (List Row)) (depth : ℕ) : Type 0 where
  pub from_one : 1 ≤ depth
  pub within : depth ≤ n
  pub enough : k ≤ length (objects_to D depth)

pub theta_is_depth : (V : List ℕ → ℕ) (k n : ℕ) (factor : Factor) (D : List (List Row)) → IsMonotone V → IsAsked k n D → factor.q ≤ factor.p
    → IsDepth k n D (theta_depth V k factor D)
theta_is_depth V k n factor D monotone asked fair =
    let own = theta_is_least V k n factor D monotone asked fair in
    record { from_one = own.from_one; within = own.within; enough = theta_enough V k factor D (theta_depth V k factor D) own.stops_there }

pub early_is_depth : (V : List ℕ → ℕ) (k n from : ℕ) (D : List (List Row)) → IsMonotone V → IsAsked k n D → IsDepth k n D (early_depth V k from D)
early_is_depth V k n from D monotone asked =
    let own = early_is_least V k n from D monotone asked in
    let deep : ℕ = early_depth V k from D in
    record {
      from_one = own.from_one;
      within = own.within;
      enough = elim (early_why V k from D deep own.stops_there) [
        | inl ta ↦ ta_enough V k D deep ta
        | inr enough ↦ leb-true k (length (objects_to D deep)) enough.1
      ];
    }
