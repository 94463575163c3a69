-- Numbers that are written so that they end at a place.
use Rattle.std.proofs.Common.{◌≡◌, ◌≤◌, ◌<◌, ◌-◌, ◌+◌, ◌^◌, ◌++◌, ◌∷◌, ℕ, List, drop, length, ap, ◌∙◌, arith}
use Rattle.std.specs.Fmt.{decimal}
use Rattle.std.specs.List.{slice_set}
use Rattle.std.proofs.lemmas.Fmt.{length-decimal-le, decimal_nonempty}
use Rattle.std.proofs.lemmas.List.{drop-set}

-- a number of 32 bits has one to ten digits
pub few_digits : (n : ℕ) → n < 2 ^ 32 → (0 < length (decimal n)) × (length (decimal n) ≤ 10)
few_digits n small = (decimal_nonempty n (omega (arith, small)), length-decimal-le 10 n (omega arith) (omega (arith, small)) (omega (arith, small)))

-- a space before a number that begins at a place
pub space_before : (text : List ℕ) (at : ℕ) (number rest : List ℕ) → 0 < at → at ≤ length text → drop at text ≡ number ++ rest
    → drop (at - 1) (slice_set text (at - 1) 32) ≡ 32 ∷ (number ++ rest)
space_before text at number rest some within is =
    let e : at - 1 + 1 ≡ at = omega (arith, some) in
    drop-set text (at - 1) 32 (omega (arith, some, within)) ∙ ap (λ n. 32 ∷ drop n text) e ∙ ap (λ t. 32 ∷ t) is
