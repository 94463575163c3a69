-- Within which factor of the best an answer is, as its transcript shows.
use Rattle.std.specs.Prelude.{◌==◌, ℕ, nat_le, List, map, if◌then◌else◌}
use Rattle.monotone_fn.specs.Value.{least}
use Rattle.topk_theory.specs.declared.access.Access.{Access}
use Rattle.topk_theory.specs.Bounds.{low, threshold}
use Rattle.algorithm_theory.specs.Within.{Factor}

-- the factor 1, and the one that says nothing
abbrev pub exact_factor : Factor
exact_factor = record { p = 1; q = 1 }

abbrev pub no_factor : Factor
no_factor = record { p = 1; q = 0 }

-- what a threshold is over the least aggregate: 1 where it is reached, and nothing where the least aggregate is 0
abbrev pub factor_over : ℕ → ℕ → Factor
factor_over bound fewest =
    if nat_le bound fewest then exact_factor else (if fewest == 0 then no_factor else record { p = bound; q = fewest })

-- the least low of the objects Y, 0 where there are none
abbrev pub least_low : (List ℕ → ℕ) → ℕ → List Access → List ℕ → ℕ
least_low V m A Y = least (map (low V m A) Y)

-- the guarantee of an early stop, by the transcript over m lists and the answer Y: the threshold at the bottoms over the least low of Y
abbrev pub early_guarantee : (List ℕ → ℕ) → ℕ → List Access → List ℕ → Factor
early_guarantee V m A Y = factor_over (threshold V m A) (least_low V m A Y)
