-- Within which factor of the best an algorithm's answer is, by its transcript.
use Rattle.std.specs.Prelude.{ℕ, Bool, true, false, List, Option, Some, None}
use Rattle.topk_theory.specs.declared.access.Access.{Access}
use Rattle.algorithm_theory.specs.Within.{Factor}
use Rattle.algorithm_theory.specs.Guarantee.{early_guarantee}
use Rattle.query_text.specs.declared.algorithm.Algorithm.{Algorithm}
use Rattle.query_text.specs.declared.algorithm.Algorithm.TheVariants.{Theta, Early}
use Rattle.cert_text.specs.declared.factor.Guarantee.{Guarantee}

-- a guarantee as a factor, and a factor as a guarantee
abbrev pub factor_of : Guarantee → Factor
factor_of g = record { p = g.p; q = g.q }

abbrev pub guarantee_of : Factor → Guarantee
guarantee_of f = record { p = f.p; q = f.q }

-- whether an algorithm's answers come with a factor
abbrev pub has_guarantee : Algorithm → Bool
has_guarantee (Theta p q) = true
has_guarantee (Early depth) = true
has_guarantee _ = false

-- the factor of the answer Y by the transcript over m lists: the one that is asked for, what an early stop shows, and none for the others
abbrev pub guarantee_by : Algorithm → (List ℕ → ℕ) → ℕ → List Access → List ℕ → Option Factor
guarantee_by (Theta p q) V m A Y = Some (record { p = p; q = q })
guarantee_by (Early depth) V m A Y = Some (early_guarantee V m A Y)
guarantee_by _ V m A Y = None
