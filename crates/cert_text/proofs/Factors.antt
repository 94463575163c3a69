-- Which algorithms have a factor, and how great its numbers are.
use Rattle.std.proofs.Common.{◌≡◌, ◌≤◌, ℕ, Bool, true, false, cond, ◌==◌, List, Option, Some, None, is_some, option_map, refl, arith, leb-false, nat_le}
use Rattle.topk_theory.specs.declared.access.Access.{Access}
use Rattle.topk_theory.specs.Bounds.{threshold}
use Rattle.algorithm_theory.specs.Within.{Factor}
use Rattle.algorithm_theory.specs.Guarantee.{exact_factor, no_factor, factor_over, least_low, early_guarantee}
use Rattle.query_text.specs.declared.algorithm.Algorithm.{Algorithm}
use Rattle.query_text.specs.declared.algorithm.Algorithm.TheVariants.{Ta, Nra, Ca, Fa, Theta, Early, Taz}
use Rattle.cert_text.specs.Guarantee.{factor_of, guarantee_of, has_guarantee, guarantee_by}

-- a factor is there exactly where the algorithm has one
pub there_by : (algorithm : Algorithm) (V : List ℕ → ℕ) (m : ℕ) (A : List Access) (Y : List ℕ) → is_some (guarantee_by algorithm V m A Y) ≡ has_guarantee algorithm
there_by Ta V m A Y = refl
there_by Nra V m A Y = refl
there_by Ca V m A Y = refl
there_by Fa V m A Y = refl
there_by (Theta p q) V m A Y = refl
there_by (Early depth) V m A Y = refl
there_by Taz V m A Y = refl

-- a factor as a guarantee is that factor
pub factor_again : (o : Option Factor) → option_map factor_of (option_map guarantee_of o) ≡ o
factor_again None = refl
factor_again (Some f) = refl

-- both numbers of a factor are at most this one
abbrev pub IsUpTo : ℕ → Factor → Type 0
IsUpTo most f = (f.p ≤ most) × (f.q ≤ most)

-- the numbers of a threshold over the least low are at most a number that isn't 0 and bounds the threshold
over_small : (bound fewest most : ℕ) → bound ≤ most → 1 ≤ most → IsUpTo most (factor_over bound fewest)
over_small bound fewest most small some = by (nat_le bound fewest) refl
  where
    less : (b : Bool) → fewest ≤ most → IsUpTo most (cond {A = Factor} b no_factor (record { p = bound; q = fewest }))
    less true few = (some, omega arith)
    less false few = (small, few)

    by : (b : Bool) → nat_le bound fewest ≡ b → IsUpTo most (cond {A = Factor} b exact_factor (cond {A = Factor} (fewest == 0) no_factor (record { p = bound; q = fewest })))
    by true e = (some, some)
    by false e = less (fewest == 0) (omega (arith, small, leb-false bound fewest e))

-- the factor of an early stop has small numbers where the threshold is small
pub early_small : (V : List ℕ → ℕ) (m : ℕ) (A : List Access) (Y : List ℕ) (most : ℕ) → threshold V m A ≤ most → 1 ≤ most
    → IsUpTo most (early_guarantee V m A Y)
early_small V m A Y most small some = over_small (threshold V m A) (least_low V m A Y) most small some
