-- The least number that passes a test, sought from below.
use Rattle.std.proofs.Common.{◌≡◌, ℕ, suc, ◌+◌, ◌-◌, ◌<◌, Bool, true, false, ap, ◌∙◌, arith}
use Rattle.topk_theory.specs.Threshold.{least_from}
use Rattle.topk_theory.proofs.ThresholdDepth.{least_here, least_later}

pub least_more : (p : ℕ → Bool) (n start : ℕ) → start < n → p start ≡ false → least_from p (n - start) start ≡ least_from p (n - (start + 1)) (start + 1)
least_more p n start l e =
    let step : n - start ≡ suc (n - (start + 1)) = omega arith in
    ap (λ fuel. least_from p fuel start) step ∙ least_later p (n - (start + 1)) start e

pub least_found : (p : ℕ → Bool) (n start : ℕ) → start < n → p start ≡ true → least_from p (n - start) start ≡ start
least_found p n start l e =
    let step : n - start ≡ suc (n - (start + 1)) = omega arith in
    ap (λ fuel. least_from p fuel start) step ∙ least_here p (n - (start + 1)) start e
