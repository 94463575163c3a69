-- The verdict by the bounds that were found.
use Rattle.std.specs.Prelude.{◌*◌, nat_le, Option, Some, None, if◌then◌else◌}
use Rattle.algorithm_theory.specs.Within.{Factor}
use Rattle.cert_judge.specs.declared.bound.Bound.{Bound}
use Rattle.cert_judge.specs.declared.verdict.Verdict.{Verdict}
use Rattle.cert_judge.specs.declared.verdict.Verdict.TheVariants.{Fixes, Beaten}

-- the verdict within a factor, where these are the least low of the answer and the greatest high outside it
abbrev pub verdict_within : Factor → Option Bound → Option Bound → Verdict
verdict_within factor None outside = Fixes
verdict_within factor (Some inside) None = Fixes
verdict_within factor (Some inside) (Some outside) =
    if nat_le (factor.q * outside.value) (factor.p * inside.value) then Fixes else Beaten inside.object outside.object inside.value outside.value
